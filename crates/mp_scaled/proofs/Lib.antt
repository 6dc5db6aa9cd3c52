mod PointLemmas
mod DigitLemmas
mod WorthLemmas
mod ReadBack

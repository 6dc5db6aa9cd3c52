mod DecimalLemmas
mod LexemeLemmas
mod LineLemmas
mod ItemLemmas
mod Examples

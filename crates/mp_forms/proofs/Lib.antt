pub mod TermLemmas
pub mod LimitLemmas

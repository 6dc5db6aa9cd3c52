pub mod ReachLemmas
pub mod ComparisonLemmas
pub mod OutcomeLemmas

pub mod Outcomes
pub mod Delivering
pub mod NumberLemmas
pub mod LineLemmas

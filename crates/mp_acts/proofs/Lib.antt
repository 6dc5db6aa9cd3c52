pub mod StoreLemmas
pub mod EquationLemmas
pub mod EventLemmas
mod Examples
pub mod GroupLemmas
pub mod TableLemmas
pub mod TextLemmas
pub mod WithinLemmas
pub mod MeaningLemmas
pub mod DeclarationLemmas

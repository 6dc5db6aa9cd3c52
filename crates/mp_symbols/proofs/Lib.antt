pub mod NameLemmas
pub mod TableLemmas
mod LawLemmas
mod Examples

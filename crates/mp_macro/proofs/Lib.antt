pub mod BodyLemmas
pub mod GrammarLemmas
pub mod NumberedLemmas
pub mod ContentLemmas
pub mod TextLemmas
mod Examples

pub mod Words
pub mod Kinds
pub mod Items
pub mod Outcome
pub mod Refusals
pub mod Ends
pub mod Substitution

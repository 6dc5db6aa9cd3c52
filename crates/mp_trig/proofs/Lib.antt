pub mod RootLemmas
pub mod Tables
pub mod LogLemmas
pub mod ExpLemmas
pub mod SineLemmas
pub mod FractionLemmas
pub mod DirectionLemmas
mod Examples

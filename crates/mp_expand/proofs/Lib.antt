pub mod HoldsLemmas
pub mod CountLemmas
mod Examples

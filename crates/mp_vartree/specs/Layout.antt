-- How the code holds what contracts see. Only the models of private types and the contracts of private functions cite
-- this: a reader of the public calls needs none of it.
pub mod Tree
pub mod TreeFalls
pub mod Children
pub mod Coding
pub mod Groups
pub mod Tags
pub mod Gathered

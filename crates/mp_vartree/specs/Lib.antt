pub mod Names
pub mod Unknowns
pub mod Serials
pub mod Declarations
pub mod Variables
pub mod Laws
pub mod Layout

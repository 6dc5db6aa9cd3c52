pub mod Roots
pub mod Logs
pub mod Sines
pub mod Directions

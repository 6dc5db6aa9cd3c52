pub mod Ratios
pub mod Terms
pub mod Pool
pub mod Storage

-- How the code holds a system. No public contract speaks of it.
pub mod Counts
pub mod Rows
pub mod Held
pub mod Solution
pub mod Tally
pub mod Taking

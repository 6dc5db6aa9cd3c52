-- How the code holds a pool. No public contract speaks of it.
pub mod Chains
pub mod Frames
pub mod Merge
pub mod Slots

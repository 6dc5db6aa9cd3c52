pub mod Counts
pub mod Seen
pub mod Contents
pub mod Outside
pub mod MemoryFiles
pub mod MemorySink
pub mod Streams
pub mod MemoryShelf

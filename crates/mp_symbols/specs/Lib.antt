pub mod Names
pub mod Tables
pub mod Groups
pub mod Coding
pub mod Calls

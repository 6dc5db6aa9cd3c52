pub mod Store
pub mod Operands
pub mod Joins
pub mod Arithmetic
pub mod Comparison
pub mod Operators

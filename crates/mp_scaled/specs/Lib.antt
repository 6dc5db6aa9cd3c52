pub mod Round
pub mod Decimal
pub mod Print

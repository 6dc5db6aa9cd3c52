pub mod Classes
pub mod Lexemes
pub mod Lines
pub mod Items
pub mod Reading

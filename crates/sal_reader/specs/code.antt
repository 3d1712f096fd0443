pub mod Symbols
pub mod Classes
pub mod Brackets

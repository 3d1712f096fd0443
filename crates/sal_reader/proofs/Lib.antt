pub mod Ascii
pub mod Digits
pub mod Values
pub mod Symbols
pub mod Lexemes
pub mod Open

pub mod Brackets
pub mod Depth
pub mod Lexemes
pub mod Members
pub mod Regular
pub mod Sorts
pub mod Spell

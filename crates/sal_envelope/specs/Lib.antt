pub mod Spelling
pub mod Decoding
pub mod Coding
pub mod code

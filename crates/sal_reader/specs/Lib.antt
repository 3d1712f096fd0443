pub mod Source
pub mod Reads
pub mod code

pub mod Adding
pub mod Keeping
pub mod Reading
pub mod Reads

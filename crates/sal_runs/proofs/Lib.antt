pub mod Gives
pub mod Invariants
pub mod Open
pub mod Owed
pub mod Sound
pub mod Steps
pub mod Telling

pub mod Gives
pub mod Kept
pub mod Owed
pub mod Sound

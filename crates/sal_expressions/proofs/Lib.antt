pub mod Depths
pub mod Ranks
pub mod Turns

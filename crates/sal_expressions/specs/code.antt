pub mod Items
pub mod Nests
pub mod Ranks

pub mod Depths
pub mod Indexes
pub mod Tails
pub mod Few
pub mod Answering

pub mod Clocks
pub mod Ending
pub mod Kept
pub mod Nodes
pub mod Quiet

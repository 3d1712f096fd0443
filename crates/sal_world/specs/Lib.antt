pub mod World
pub mod Pieces
pub mod Image
pub mod Rest
pub mod Lists
pub mod Turns
pub mod Report

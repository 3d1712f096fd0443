pub mod Places
pub mod Requests
pub mod Sizes
pub mod Turns
pub mod Views

pub mod Possible
pub mod Lists
pub mod Maps
pub mod Changes
pub mod Handling

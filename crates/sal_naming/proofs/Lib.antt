pub mod Changes
pub mod Removing

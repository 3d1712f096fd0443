pub mod Again
pub mod Delimited
pub mod Extending
pub mod Found
pub mod Keeping
pub mod Parts
pub mod Rows

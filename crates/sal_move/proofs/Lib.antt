pub mod Keeping
pub mod Learning

pub mod Naming
pub mod Reaching

pub mod Supplies
pub mod Contexts
pub mod code

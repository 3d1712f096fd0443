pub mod Service
pub mod code

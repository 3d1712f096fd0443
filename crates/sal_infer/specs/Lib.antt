pub mod Scopes
pub mod Handlers
pub mod code

pub mod Handlers
pub mod Messages
pub mod Programs
pub mod Runs
pub mod Signatures

pub mod Checks
pub mod Signing

pub mod Audits
pub mod code

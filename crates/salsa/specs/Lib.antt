pub mod Audit
pub mod Inputs
pub mod Memory
pub mod Outside
pub mod Programs
pub mod Top
pub mod code

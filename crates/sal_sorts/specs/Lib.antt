pub mod Environments
pub mod code
pub mod Expressions
pub mod Messages
pub mod Refusals
pub mod Sorts
pub mod Starts
pub mod Verdicts

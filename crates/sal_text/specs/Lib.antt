pub mod Values
pub mod Tokens
pub mod Spans
pub mod code
pub mod Refusals
pub mod Uniqueness
pub mod Standing

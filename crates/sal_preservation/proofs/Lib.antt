pub mod Judged
pub mod Values
pub mod Expressions
pub mod Lookups
pub mod Reaching
pub mod Judging
pub mod Keeping

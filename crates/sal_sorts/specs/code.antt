pub mod Callees
pub mod Indexes
pub mod Judging
pub mod Messaging

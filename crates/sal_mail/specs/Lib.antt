pub mod ReplyKeys
pub mod Lines
pub mod Key
pub mod Message
pub mod Sums

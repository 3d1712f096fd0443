pub mod Each
pub mod Answering
pub mod Keeping
pub mod Lowest
pub mod Repeats
pub mod Services
pub mod TableTexts

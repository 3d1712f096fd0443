pub mod code
pub mod Documents
pub mod Laws
pub mod Parts
pub mod Refusals

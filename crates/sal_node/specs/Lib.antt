pub mod Halves
pub mod Links
pub mod Offers
pub mod code

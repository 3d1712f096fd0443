pub mod Making
pub mod Offers
pub mod Taking
pub mod Halves
pub mod Withdrawing

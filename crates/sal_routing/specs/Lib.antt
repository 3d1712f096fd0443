pub mod State
pub mod Fits
pub mod Routing
pub mod Arrivals
pub mod Handling
pub mod Turns
pub mod Laws

pub mod Exchange
pub mod Fragments
pub mod Frames
pub mod Halves
pub mod Laws
pub mod Link
pub mod Offers
pub mod Transit

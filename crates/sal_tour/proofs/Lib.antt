pub mod Drawing
pub mod Listing

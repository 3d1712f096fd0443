mod Keys
pub mod Laws
pub mod Overlays

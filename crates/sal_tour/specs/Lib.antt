pub mod Draws
pub mod Events
pub mod Plans
pub mod Tours

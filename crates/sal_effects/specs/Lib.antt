pub mod Makers
pub mod Numbers
pub mod Ranges
pub mod Sizes
pub mod Slots
pub mod Spelled
pub mod Texts

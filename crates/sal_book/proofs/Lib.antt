pub mod Parting
pub mod Rising
pub mod Filling
pub mod Legal
pub mod Makers
pub mod Resolving
pub mod Versions

pub mod Equations
pub mod Keeping

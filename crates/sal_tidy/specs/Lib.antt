pub mod Laws
pub mod Tidy

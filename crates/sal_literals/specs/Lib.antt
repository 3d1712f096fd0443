pub mod code
pub mod Laws
pub mod Reading
pub mod Texts

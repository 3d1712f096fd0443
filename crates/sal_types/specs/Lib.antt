pub mod Endings
pub mod Laws
pub mod Members
pub mod Programs
pub mod Signatures
pub mod Statements
pub mod code

pub mod Asked
pub mod Programs
pub mod Turning

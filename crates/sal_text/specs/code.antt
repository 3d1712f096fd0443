pub mod Scanning
pub mod Scanned

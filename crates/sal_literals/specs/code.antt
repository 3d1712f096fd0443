pub mod Leads
pub mod Reads
pub mod Scanning

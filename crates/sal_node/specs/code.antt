pub mod Withdrawing
pub mod Takes

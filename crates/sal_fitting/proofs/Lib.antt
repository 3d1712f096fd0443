pub mod First
pub mod Giving
pub mod Migrating
pub mod Pieces
pub mod Running
pub mod Stepping

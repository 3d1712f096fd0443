pub mod Asking
pub mod Codes
pub mod Desks
pub mod Drafts
pub mod Effects
pub mod Keyed
pub mod Rooms

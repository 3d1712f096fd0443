mod Keys
pub mod Laws
pub mod Rooms

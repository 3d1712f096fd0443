pub mod Lines
pub mod Events
pub mod Rules
pub mod Schedules
pub mod code

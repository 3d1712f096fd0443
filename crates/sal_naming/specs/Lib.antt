pub mod Changes
pub mod Table

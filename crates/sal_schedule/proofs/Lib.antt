pub mod Belonging
pub mod Cutting
pub mod Each
pub mod KindRules
pub mod Reading
pub mod Runs
pub mod Universal

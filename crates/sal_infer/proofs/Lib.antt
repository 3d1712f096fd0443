pub mod SortEquations
pub mod ChangeEquations
pub mod Naming
pub mod Lasts
pub mod Replies
pub mod Ids
pub mod Levels

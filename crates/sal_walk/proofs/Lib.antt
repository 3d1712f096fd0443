pub mod Equations
pub mod Steps
pub mod MemberSteps
pub mod Handling
pub mod Few
pub mod Names
pub mod Params

pub mod Closing
pub mod ClosingStatements
pub mod DepthEquations
pub mod RegularEquations
pub mod SpellEquations
pub mod SpellSteps

pub mod ExpressionEquations
pub mod ExpressionRefusals
pub mod Fitting
pub mod Indexes
pub mod Lookups
pub mod MessageRefusals
pub mod Refusals
pub mod StartEquations

pub mod Tokens
pub mod Sets
pub mod Refusals
pub mod Parsers
pub mod Expressions
pub mod Statements
pub mod Programs
pub mod Laws

pub mod Ends
pub mod HandlerTrees

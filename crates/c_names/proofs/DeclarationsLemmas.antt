pub mod Least
pub mod Lists
pub mod Layers
pub mod Inits
pub mod Trees
pub mod StatementTrees

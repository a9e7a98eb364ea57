pub mod Choosing
pub mod Keys
pub mod Making
pub mod Marking
pub mod Pruning
pub mod Reducing
pub mod Levels
pub mod Arguments

pub mod Outs
pub mod Joining
pub mod Merged
pub mod Iterations
pub mod Trees

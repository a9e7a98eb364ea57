pub mod Shown
pub mod Stacks
pub mod Labels
pub mod Calling
pub mod Chains

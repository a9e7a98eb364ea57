pub mod Bits
pub mod Guards
pub mod Idle
pub mod Taken
pub mod Selections
pub mod Branches
pub mod Whole

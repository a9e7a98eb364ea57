pub mod Trees
pub mod Converted
pub mod Listed
pub mod Lowered
pub mod Kept
pub mod Runs
pub mod Whole

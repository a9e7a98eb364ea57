pub mod Numbered
pub mod Demands
pub mod Joined
pub mod Merged
pub mod Smaller
pub mod Converted

pub mod Overlaps
pub mod Left
pub mod Lengths
pub mod Frames
pub mod Whole
pub mod Sources

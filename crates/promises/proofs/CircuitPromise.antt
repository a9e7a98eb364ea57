pub mod Returning
pub mod Frames
pub mod Whole

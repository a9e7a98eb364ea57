pub mod Frames
pub mod Lines
pub mod Arms
pub mod Points
pub mod Copies

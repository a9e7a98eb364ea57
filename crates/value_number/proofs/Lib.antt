pub mod Adding
pub mod Showing
pub mod Parts
pub mod Settling
pub mod Splitting
pub mod Turning
pub mod Counting

pub mod Laid
pub mod Iterations
pub mod Whole

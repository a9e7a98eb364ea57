pub mod Setting
pub mod Adding
pub mod Splitting
pub mod Rows
pub mod Turning
pub mod Counting

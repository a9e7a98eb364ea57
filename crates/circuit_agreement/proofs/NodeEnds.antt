pub mod Variables
pub mod Staying
pub mod Blocks
pub mod Reading
pub mod Handing
pub mod Loops
pub mod Comparing
pub mod Entering

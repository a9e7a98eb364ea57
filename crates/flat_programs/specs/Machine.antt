pub mod Held
pub mod Sizes
pub mod States
pub mod Steps
pub mod Rest
pub mod Nearing

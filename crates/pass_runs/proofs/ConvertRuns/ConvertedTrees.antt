pub mod Exits
pub mod Numbered
pub mod Converted
pub mod Blocks
pub mod Typing
pub mod Points

pub mod Entries
pub mod Views
pub mod Boxes
pub mod Blocks

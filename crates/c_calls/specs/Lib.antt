pub mod Views
pub mod Called
pub mod Linked
pub mod Loops

pub mod Views
pub mod Settings
pub mod Operators
pub mod Drafts

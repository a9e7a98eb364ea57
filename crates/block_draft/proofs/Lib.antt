pub mod Forms
pub mod Settling
pub mod Listing
pub mod Expressing
pub mod Sizes
pub mod PureForms
pub mod Drafting

pub mod Sublists
pub mod Sizes
pub mod Places
pub mod Numbered
pub mod Begun
pub mod Converted
pub mod Folds

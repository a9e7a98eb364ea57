pub mod Lists
pub mod Objects
pub mod PassedPaths
pub mod Reading
pub mod Metering
pub mod Scopes
pub mod Contents

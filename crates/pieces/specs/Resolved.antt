pub mod Core
pub mod CoreView

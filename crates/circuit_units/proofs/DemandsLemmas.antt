pub mod Pushing
pub mod Reading
pub mod Owning
pub mod Making
pub mod Collecting
pub mod Accessing

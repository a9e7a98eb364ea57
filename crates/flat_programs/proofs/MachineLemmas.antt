pub mod Reading
pub mod Rounds
pub mod Going
pub mod Nearing

pub mod Adding
pub mod Renamed
pub mod Computed
pub mod Blocks
pub mod Trees

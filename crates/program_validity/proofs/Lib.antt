pub mod Numbers
pub mod Parts
pub mod Memories
pub mod EachOperation
pub mod WellTimed
pub mod Whole

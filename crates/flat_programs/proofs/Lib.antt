mod Runs
mod Overlapping
mod Ends
mod Places
mod Entering
mod Looping
mod Trees
pub mod Whole
mod There
pub mod MemoryLemmas
pub mod MachineLemmas

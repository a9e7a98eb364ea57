mod Refining
mod Performing
mod Keeping
mod Counting
mod Choosing
mod Suiting
mod Shown
mod Plain
mod Splitting
mod Running
pub mod Kept
mod Rebuilding
mod Standing
mod Handing
mod NodeFacts
mod Rounds
mod StandingPairs
mod NoPair
mod Reached
pub mod ValidFusing

mod Bits
mod Choices
mod Equalities
mod Fewer
mod Folding
pub mod Folds
mod Groups
mod Keeping
pub mod Making
mod Pruned
mod Setting
pub mod Showing
mod Spreading
mod Trees
pub mod Leveling
mod Comparing
mod Giving
mod Patterns
mod Shifting
mod Signs
mod Steps

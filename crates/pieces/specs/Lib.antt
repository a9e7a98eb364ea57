pub mod Resolved
pub mod Trees
pub mod View
pub mod Weight
pub mod Shape
pub mod Program
pub mod Kind

mod Examples
pub mod Leading
pub mod Enclosing
pub mod CoreForms
pub mod Chaining
pub mod Turning
pub mod Homes
pub mod Programs
pub mod PieceTrees
pub mod StatementTrees
pub mod Actions
pub mod Marking
pub mod Subscripts
pub mod Operating
pub mod Declaring
pub mod Evaluating
pub mod Calling

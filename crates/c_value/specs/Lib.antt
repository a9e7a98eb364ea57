pub mod Values
pub mod Operators
pub mod Constant
pub mod Chains
pub mod Inside

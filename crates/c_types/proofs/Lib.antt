pub mod Counts
pub mod Operands
pub mod ExpressionFaults
pub mod Chains
pub mod StatementFaults
pub mod Accepted

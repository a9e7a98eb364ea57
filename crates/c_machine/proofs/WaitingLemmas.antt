pub mod Blocks
pub mod RowSizes
pub mod BoundParameters
pub mod Functions
pub mod OperatorChains
pub mod Labelling

pub mod LoopTests
pub mod ConvertedShapes
pub mod StraightCalls
pub mod TreeFlow

pub mod Statements
pub mod Calls
pub mod Outlines
pub mod Contents
pub mod Laws
pub mod ElaboratedPrograms

pub mod Faults
mod TopPlace
pub mod PinNames
pub mod ShortCycles
mod Made
mod Ended
pub mod Stopped
pub mod ScalarCount
pub mod VerdictCases
pub mod SoakMade
mod Forms
pub mod AgreedComparisons

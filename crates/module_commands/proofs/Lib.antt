mod Settling
mod Refuted
pub mod ReadTexts
mod ChainPins
pub mod ReadFiles

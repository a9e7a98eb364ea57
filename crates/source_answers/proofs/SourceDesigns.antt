pub mod PlanWords
pub mod PlanAnswers
pub mod SourceCircuits
pub mod Pins
pub mod Contents
pub mod Whole

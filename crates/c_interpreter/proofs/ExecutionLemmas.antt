pub mod Runs
pub mod UnderWay

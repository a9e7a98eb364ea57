pub mod Switches
pub mod Bodies
pub mod Trees
pub mod Counting
pub mod Whole
pub mod Examples

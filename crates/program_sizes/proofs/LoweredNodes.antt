pub mod Copies
pub mod Within
pub mod Arms
pub mod Trees

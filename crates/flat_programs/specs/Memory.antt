pub mod Filling
pub mod Contents

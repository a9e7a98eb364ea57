pub mod Trees
pub mod Ready
pub mod Loops
pub mod Subscripts
pub mod Examples
pub mod Laws
pub mod ValidPrograms

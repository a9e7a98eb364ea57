pub mod PointOrder
pub mod Merging
pub mod Sorting
pub mod Loops
pub mod SortedRows
pub mod ServingOrder

pub mod Followed
mod Orders
pub mod Permuted
pub mod Dealing
pub mod Requests
pub mod Serving
pub mod Leading
pub mod EarlyTimes
pub mod Growing

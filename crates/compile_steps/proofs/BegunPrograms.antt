pub mod Numbers
pub mod Variables
pub mod Arrays
pub mod Programs

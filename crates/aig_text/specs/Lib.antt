pub mod GraphText
pub mod TextForm
pub mod Reading
pub mod Forms
pub mod Views
pub mod Examples

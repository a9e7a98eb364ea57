pub mod PlainReport
pub mod ReportText
pub mod ReportForm
pub mod FormulaValue
pub mod Reading
pub mod Forms
pub mod Views
pub mod Examples

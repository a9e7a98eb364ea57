pub mod PrintedSyntax
pub mod PrintedText
pub mod PrintableNames
pub mod Examples

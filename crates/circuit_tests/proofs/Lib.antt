pub mod PrintableNames

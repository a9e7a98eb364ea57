pub mod Words
pub mod Options
pub mod OptionViews
pub mod Commands
pub mod CommandViews
pub mod ClapCommand
pub mod ClapMatches
pub mod Reading

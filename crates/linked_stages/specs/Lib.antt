pub mod LinkedStages

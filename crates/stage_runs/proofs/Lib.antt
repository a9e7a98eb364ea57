mod Lowered
mod Ending
mod Refusing
mod WholeStages

pub mod Writing
pub mod Putting
pub mod Printing
mod Fronts
mod Refuted

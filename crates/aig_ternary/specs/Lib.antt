pub mod Ternary
pub mod Step

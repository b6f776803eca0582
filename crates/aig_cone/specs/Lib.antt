pub mod Marks
pub mod Refine

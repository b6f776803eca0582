mod Agreeing
mod Examples
pub mod Keeping
mod Marking
mod Numbers
pub mod Refining
mod Searching
pub mod Twice
mod Refuted

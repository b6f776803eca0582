pub mod Forms
pub mod Unique
pub mod Matching
pub mod Needing
pub mod Fixing
pub mod Marking
pub mod Adding
pub mod OneList
mod Examples
mod Refuted

mod Parsing
pub mod Giving
pub mod Apart
pub mod Kept
pub mod Counting
mod Fronts
pub mod Limits
pub mod Telling
pub mod Examples
mod Following

pub mod Lines
pub mod Items
pub mod Counts
pub mod Entries
pub mod Texts
pub mod Small
mod Differences
pub mod Numbered
mod Tables
mod Examples

mod Alike
mod Equal
mod Examples
mod Firsts
mod Gates
pub mod Keeping
mod Leaves
mod Listing
pub mod Merged
mod Numbered
pub mod Strashing
mod Tables
pub mod Twice
mod Refuted

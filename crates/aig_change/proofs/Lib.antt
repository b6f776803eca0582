pub mod Lists
mod Values
pub mod Merging
pub mod Merged
pub mod Grown
pub mod Held
mod FirstStep
mod First
pub mod Moving
mod Compressing
mod Constraining
mod Examples
mod Refuted

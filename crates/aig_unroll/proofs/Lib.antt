mod Examples
pub mod Others
pub mod Values
pub mod Lists
pub mod NoStep
pub mod Added
pub mod Pushed
pub mod NextStep
pub mod MoreShown
pub mod MoreSteps
mod OneStep
pub mod Framed
pub mod Copied
pub mod Table
pub mod Counted
pub mod Stepped
pub mod Exactly
mod Refuted

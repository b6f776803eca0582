pub mod Beginnings
pub mod Further
pub mod Nodes
pub mod Runs
pub mod Encoded
pub mod Ends
pub mod Kept
pub mod Below
pub mod Windows
pub mod Induction
mod Examples

pub mod MarkedBits
pub mod Tables
pub mod NodesIn
pub mod InOrder
pub mod Searching
pub mod Leveling
pub mod Written
mod Examples

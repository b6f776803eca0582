pub mod Stepwise
pub mod Induction
pub mod Unrolling
pub mod Kept
pub mod Ends

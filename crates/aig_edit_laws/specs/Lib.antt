pub mod Shown
pub mod Plain
pub mod Reduction
pub mod Fair
pub mod Rounds

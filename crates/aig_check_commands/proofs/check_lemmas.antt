pub mod Flushing
pub mod Outcomes
pub mod Pairing
pub mod Questioning
pub mod Refusing
pub mod Shown
pub mod Simulating
pub mod Viewed

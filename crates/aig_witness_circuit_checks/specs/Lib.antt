pub mod Simulated
pub mod Conditions
pub mod Witnesses

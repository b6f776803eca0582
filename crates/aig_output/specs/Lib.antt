pub mod Sinks
pub mod Writing

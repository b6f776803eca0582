pub mod Places
pub mod Frame
pub mod Unroll
pub mod Step

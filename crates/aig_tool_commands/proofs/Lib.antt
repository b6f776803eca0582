pub mod Running
pub mod Answering
pub mod Calling
pub mod Flushing
pub mod Outcomes
mod Examples
mod Unrolling
mod Printed

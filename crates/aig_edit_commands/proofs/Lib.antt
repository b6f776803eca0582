pub mod Examples
pub mod Flushing
pub mod Opening
pub mod Calling

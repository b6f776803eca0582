pub mod Marks
pub mod Places
pub mod Refusals
pub mod Room
pub mod Rows
pub mod Shown
pub mod Taking

mod Words
pub mod Examples
pub mod Telling
pub mod Turns
pub mod Claiming
pub mod Reading

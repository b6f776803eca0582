mod Words
pub mod Examples
mod Given
mod Placing

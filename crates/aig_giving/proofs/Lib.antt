pub mod Giving
pub mod Listing
pub mod Words

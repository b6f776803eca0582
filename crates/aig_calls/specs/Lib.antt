pub mod Memory
pub mod Statuses
pub mod Numbers
pub mod Calls
pub mod Checking
pub mod Listings

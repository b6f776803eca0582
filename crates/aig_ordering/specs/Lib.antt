pub mod Bits
pub mod Lists
pub mod Gates
pub mod Tables
pub mod Search
pub mod Order
pub mod Numbers

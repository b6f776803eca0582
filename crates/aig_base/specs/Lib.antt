pub mod Wrapped
pub mod Devices
pub mod Clauses
pub mod Cut
pub mod Place
pub mod Three
pub mod Formula

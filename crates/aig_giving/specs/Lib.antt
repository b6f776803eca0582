pub mod Edges
pub mod Given
pub mod Numbers
pub mod Statuses
pub mod Values

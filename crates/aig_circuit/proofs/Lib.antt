pub mod Building
pub mod Circuits
pub mod Copies
pub mod Counting
pub mod Edges
mod InitialEdges
pub mod Joining
pub mod Listed
pub mod Lists
pub mod Marking
pub mod Names
mod Refuted
pub mod Trees
pub mod Values
pub mod Words
pub mod Writing

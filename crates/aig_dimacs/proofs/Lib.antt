pub mod Words
pub mod Reading
pub mod Comments
pub mod Pieces
mod Examples
mod Puts
pub mod ByMarks

pub mod InOrder
pub mod OfFiles
pub mod Safe
pub mod FilesRead
mod Refuted

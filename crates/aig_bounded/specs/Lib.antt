pub mod Question
pub mod Shared
pub mod Exact
pub mod Gates
pub mod Depths
pub mod Frames
pub mod Steps
pub mod Cut

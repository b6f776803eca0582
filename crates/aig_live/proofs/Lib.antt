pub mod Added
pub mod Forth
pub mod Back
pub mod Made
pub mod Assembled
pub mod Lived
pub mod Circuits
pub mod Extended
pub mod Rows
pub mod Running
pub mod Counts
pub mod Ending
pub mod Counted
pub mod Roundly
pub mod Saving
pub mod Turning
pub mod RoundsAgain
mod Examples

mod Words
pub mod Putting
pub mod Tracking
pub mod Filling
pub mod First
pub mod Exactly
pub mod Gates
pub mod Copied
pub mod Framed
pub mod Reading
pub mod Owned
pub mod Deciding
pub mod AskedCircuits
pub mod Constant
mod Examples
pub mod Adding
pub mod Allowed
pub mod Found
pub mod Saying
pub mod Alike
pub mod Walks
pub mod Circular
pub mod Descent
pub mod Resets

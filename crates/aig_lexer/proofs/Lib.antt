pub mod Digits
pub mod Faults
pub mod Feeds
pub mod Front
pub mod Going
pub mod Taking
pub mod Words
pub mod NextLine
pub mod Deltas
pub mod KindWord
pub mod HeaderNumbers
pub mod Ending
pub mod SignedNumbers
mod Examples

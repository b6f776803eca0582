pub mod Compressed
pub mod Folded
pub mod Unrolled
pub mod Machines
pub mod Written
pub mod PlainForms
pub mod Paired
pub mod Reduced
pub mod Cones
pub mod Asserted
mod Carrying
pub mod Witnesses
pub mod AskedCones
pub mod Dropped
mod Sizes
mod Reducing
mod Alone
mod Examples
mod ReductionExamples
pub mod Going
pub mod Repeats
pub mod Coming
pub mod Files
pub mod Justice
pub mod Rounds
pub mod Naming
pub mod WrittenLive
mod FairExamples

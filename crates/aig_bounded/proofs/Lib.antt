mod Lowered
mod Extended
mod Shown
mod Stepped
mod Joined
mod Reached
mod Read
mod Marked
mod Counted
mod Cut
mod Sharing
mod Attained
mod Exactly
mod Grown
mod Steady
pub mod Single
pub mod Witnesses
pub mod Examples

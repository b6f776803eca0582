mod Words
mod Pairs
mod Growing
mod Asking
pub mod Verdicts
pub mod Answering
mod Alike
pub mod NamelessWindows
mod Deciding
mod Differing
mod WindowRuns
mod BadWindows
mod Examples
mod Safe
mod Single
mod AskedFiles
mod Names
mod Saying
mod Simulated
mod Solved
mod BoundedVerdicts
mod Refuted
mod Planning
mod PlanInstances
mod PlanRooms
mod Showing
mod GoalFiles

mod Spelled
pub mod Going
mod Pieces
mod Examples
pub mod Simulated
pub mod Zips
pub mod Started
pub mod ShownRuns
pub mod Nexts
pub mod Given
pub mod Exact
mod ShowingExamples
mod Turning
mod Steps
pub mod ShowingSolutions
mod Leaving
mod Texts
mod Numbers
mod Digits
mod SignedWords
mod Literals
mod ValueLines
mod LineStarts
mod AnswerLines
mod Solved
mod Saying
mod ValueExamples
mod SolutionExamples
mod Written
mod States
mod Marks
mod Lassos
mod ExactLassos
mod NextClaims

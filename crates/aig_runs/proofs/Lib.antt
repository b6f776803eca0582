pub mod Standing
mod Leaves
pub mod CircuitRuns
pub mod FileRuns
pub mod Rows
pub mod Further
pub mod Starting
pub mod CircuitQueries
pub mod Witnesses
pub mod Queries
pub mod SafeSteps
mod Examples
mod Refuted
mod SafetyRefuted
mod Invariants
mod Splicing
mod Induction
mod States
mod Certificates
mod Differing
pub mod Below
pub mod Windows
mod SafetyExamples
pub mod Asking

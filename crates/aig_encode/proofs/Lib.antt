pub mod Verdicts
pub mod Bads
mod Promised
mod Refuted

pub mod Names
pub mod NameSteps

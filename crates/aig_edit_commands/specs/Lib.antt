pub mod CommandWords
pub mod Acting
pub mod Help
pub mod Subjects
pub mod Explaining
pub mod Noticing

pub mod Cnf
pub mod Marks
pub mod Patterns

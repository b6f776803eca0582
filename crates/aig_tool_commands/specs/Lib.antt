pub mod Printing
pub mod CommandWords
pub mod Acting
pub mod Running
pub mod Unrolled

pub mod Exchange
pub mod Numbering
pub mod Strash
pub mod Tables

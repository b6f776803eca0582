pub mod Reads
pub mod FileSubjects
pub mod Subjects
pub mod Shown
pub mod Parts

pub mod Reading
pub mod MergedFiles
pub mod JointFiles
mod Standing
pub mod Misfits
pub mod Printed
pub mod Edited
pub mod EditedFiles
pub mod ReadFiles
pub mod Asking
pub mod Depths
mod Sets
mod Written
mod LiveFiles
mod RoundsFiles
pub mod ConstraintWords
pub mod Again
pub mod Examples

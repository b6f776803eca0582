pub mod Commenting
pub mod Placing
pub mod Passing
pub mod Summing

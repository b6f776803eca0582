pub mod Instances
pub mod Leaves
pub mod Taking
pub mod Texts

pub mod Gates
pub mod Results
pub mod Refusing
pub mod Texts
pub mod Strashed
mod Examples

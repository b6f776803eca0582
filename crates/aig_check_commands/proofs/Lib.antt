mod Words
pub mod line_lemmas
mod Calling
pub mod check_lemmas
mod Commanding
mod Opened
mod Examples

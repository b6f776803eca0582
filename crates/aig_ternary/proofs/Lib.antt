mod Examples
mod Known
mod Stepping
mod Refuted

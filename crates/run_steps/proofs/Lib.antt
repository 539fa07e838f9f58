pub mod Reached
pub mod Grows
mod Hearing

pub mod Overlap
pub mod Steps

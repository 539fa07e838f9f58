pub mod Feed
pub mod Steps
pub mod Runs

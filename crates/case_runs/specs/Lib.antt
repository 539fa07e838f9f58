pub mod Closing
pub mod Given
pub mod Runs

pub mod Rows
pub mod BlockPlaces
pub mod Starts

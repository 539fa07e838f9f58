pub mod Removal
pub mod Rooms

pub mod Tracks
pub mod Slots
pub mod Segments
pub mod Made
pub mod Fragments

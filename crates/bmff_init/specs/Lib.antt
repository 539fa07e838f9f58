pub mod Edits
pub mod Tracks
pub mod Movies

pub mod Tables
pub mod Segments
pub mod Moves
pub mod Strings
pub mod Ranges
pub mod Bounds
pub mod Example

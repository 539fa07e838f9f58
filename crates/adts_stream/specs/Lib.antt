pub mod Headers
pub mod Frames
pub mod Places
pub mod Rows
pub mod Walk
pub mod Values
pub mod Streams

pub mod Calls
pub mod Room
pub mod Seekable
pub mod State

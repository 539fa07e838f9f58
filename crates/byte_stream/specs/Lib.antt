pub mod Readings
pub mod Streams

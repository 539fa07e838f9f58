pub mod Headers
pub mod Samples
pub mod Times
pub mod Plans
pub mod Steps
pub mod Slots

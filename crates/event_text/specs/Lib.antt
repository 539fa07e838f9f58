pub mod Words
pub mod Times
pub mod Calls
pub mod Answers
pub mod Events
pub mod Faults
pub mod Lines
pub mod Block

pub mod Evicting
pub mod Spared
pub mod Times
pub mod Steps

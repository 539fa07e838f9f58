pub mod Times
pub mod Syncs
pub mod Ranges
pub mod Evictions
pub mod Places
pub mod Between
pub mod Spared

pub mod Ways
pub mod Happenings
pub mod Steps
pub mod Laws

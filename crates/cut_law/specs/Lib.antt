pub mod Cuts
pub mod FileRooms
pub mod Files
pub mod Outcomes
pub mod Plays
pub mod Room
pub mod Silent

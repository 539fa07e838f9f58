pub mod Calls
pub mod Given
pub mod Owned
pub mod Looks
pub mod Sessions

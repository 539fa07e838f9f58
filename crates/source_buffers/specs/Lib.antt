pub mod All
pub mod Buffered
pub mod Done
pub mod Slots
pub mod State
pub mod Views

pub mod Few
pub mod Reach
pub mod QueuedEvents
pub mod Raised

pub mod State
pub mod Queueing
pub mod DurationChange
pub mod Settled

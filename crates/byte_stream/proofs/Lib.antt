pub mod Durations
pub mod Lasting
pub mod ParserCalls
pub mod KeptStreams
pub mod Resets
pub mod Placed
pub mod ReadyFrames
pub mod Timed

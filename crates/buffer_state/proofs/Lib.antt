pub mod KeptBuffers
pub mod ItemsNext
pub mod AppendSteps
pub mod StepsLeft
pub mod TypeChanges
pub mod InitRanges
pub mod Refusals
mod TrackNumbers
mod FrameTracks

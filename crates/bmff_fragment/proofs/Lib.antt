pub mod Clock
pub mod RunSamples
pub mod RunSlots
pub mod PlanByRuns
pub mod RowSteps
pub mod SlotTracks
pub mod Counts

pub mod ActivePlaces
pub mod RefusedDurations

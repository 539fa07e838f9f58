pub mod Walk
pub mod Items
pub mod Parse
pub mod StringReadings
pub mod Example

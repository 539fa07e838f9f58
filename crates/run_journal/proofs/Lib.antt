pub mod CountedPlaces
pub mod GrowingPlaces
pub mod KeptCalls

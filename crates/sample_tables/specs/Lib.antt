pub mod BoxPlaces
pub mod Tables
pub mod Samples
pub mod Rules
pub mod Movies
pub mod Facts

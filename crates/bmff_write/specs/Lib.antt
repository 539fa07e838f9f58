pub mod Boxes
pub mod Tracks
pub mod Fits
pub mod Movie
pub mod Fragment
pub mod Made

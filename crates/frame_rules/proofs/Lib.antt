pub mod AllTracks
pub mod Loops
pub mod PlainFrames
pub mod PutFrames
pub mod Rooms
pub mod SoundPlaced

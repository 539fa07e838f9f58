pub mod Ends
pub mod Removals
pub mod Rooms
pub mod Loops
pub mod Fixture

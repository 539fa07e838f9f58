pub mod State
pub mod Seeking
pub mod Playing
pub mod Turns
pub mod Settling
pub mod Inside

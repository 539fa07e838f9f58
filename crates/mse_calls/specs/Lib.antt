pub mod AnswerAndState
pub mod Blobs
pub mod Level
pub mod Pieces
pub mod Ready

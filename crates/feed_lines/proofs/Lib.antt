pub mod FeederAnswers
pub mod Progress
pub mod PutLines

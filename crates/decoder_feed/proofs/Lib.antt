pub mod Groups
pub mod FeederAnswers

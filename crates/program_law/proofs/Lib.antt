pub mod Examples
pub mod FileExamples
mod LimitExamples
mod OnInputs
pub mod ScriptExamples

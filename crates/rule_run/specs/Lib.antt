pub mod ByRules
pub mod Texts

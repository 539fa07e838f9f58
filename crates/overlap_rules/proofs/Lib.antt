pub mod Firm
pub mod Rules

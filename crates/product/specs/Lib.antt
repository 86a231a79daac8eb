pub mod Outcome
pub mod Rules

pub mod Flags
pub mod Change
pub mod Rules

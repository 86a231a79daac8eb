pub mod Duals
pub mod Rules
pub mod Writing

pub mod Body
pub mod Rules
pub mod Exact
pub mod Promised

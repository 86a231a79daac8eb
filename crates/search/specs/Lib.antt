pub mod SearchedBy
pub mod Exact
pub mod Rules
pub mod Promised

pub mod Capped
pub mod Counted

pub mod Sups
pub mod Filling

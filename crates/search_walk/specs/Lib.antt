pub mod Searched
pub mod Ready

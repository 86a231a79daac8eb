pub mod Two
pub mod Kinds

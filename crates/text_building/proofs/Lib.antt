pub mod Flat
pub mod Elements
pub mod Told

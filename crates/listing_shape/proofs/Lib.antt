pub mod Bands
pub mod Counts

pub mod Sizes
pub mod Target
pub mod Extremes

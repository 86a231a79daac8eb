pub mod EvenFlags
pub mod Vertices
pub mod Lowest
pub mod Changed
pub mod Exactly

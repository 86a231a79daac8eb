pub mod Sound
pub mod Trimmed
pub mod Paired
pub mod Grown
pub mod Product
pub mod Lengths

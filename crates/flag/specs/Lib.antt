pub mod Changed
pub mod Orientations
pub mod Rules

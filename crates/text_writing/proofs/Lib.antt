pub mod Numbers
pub mod Putting
pub mod Rows
pub mod Parts
pub mod Ranks

pub mod Low
pub mod Ranks
pub mod Every

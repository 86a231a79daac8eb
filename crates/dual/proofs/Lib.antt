pub mod Putting
pub mod Turned
pub mod Backward
pub mod RankPut
pub mod DualBroken

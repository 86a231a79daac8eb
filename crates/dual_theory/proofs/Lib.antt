pub mod DualLists
pub mod Duals
pub mod DualShaped
pub mod DualClosed
pub mod DualProducts

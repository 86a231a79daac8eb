pub mod Chains
pub mod InAll
pub mod First
pub mod Pieces
pub mod Elements
pub mod Products

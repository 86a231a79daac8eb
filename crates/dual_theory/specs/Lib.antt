pub mod Dual
pub mod TurnedOver

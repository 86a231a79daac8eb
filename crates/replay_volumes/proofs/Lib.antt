-- The laws of this crate's proofs.
pub mod Metres

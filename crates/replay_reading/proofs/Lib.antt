-- The laws of this crate's proofs.
pub mod Texts
pub mod Stores

pub mod Text
pub mod Said
pub mod Digits
pub mod Notes
pub mod Places

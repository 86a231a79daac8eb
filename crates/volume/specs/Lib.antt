pub mod Volumes
pub mod Rules
pub mod Promised

pub mod Ways
pub mod Incidence

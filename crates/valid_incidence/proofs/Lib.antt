pub mod Ways
pub mod Turns
pub mod Entries
pub mod IncidenceExact
pub mod Below
pub mod Matched

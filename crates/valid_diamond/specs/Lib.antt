pub mod Dyadic
pub mod Tally

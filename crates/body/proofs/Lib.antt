pub mod FirstSups
pub mod FoundAll
pub mod Judged
pub mod Cases
pub mod Verdict
pub mod Exact

pub mod Cases
pub mod VolumeBroken
pub mod Exact
pub mod TwoCalls
pub mod Tested

pub mod AtHand
pub mod Neighbours
pub mod Works
pub mod Runs
pub mod Starts

pub mod Keys
pub mod Values
pub mod Terms
pub mod Singles

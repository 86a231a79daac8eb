pub mod Agreement
pub mod Bounds
pub mod Ascent
pub mod Tests
pub mod Closed
pub mod Derived
pub mod Rules

pub mod Search
pub mod Course

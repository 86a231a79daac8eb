pub mod Walks
pub mod OneTwice
pub mod Totals
pub mod Counting
pub mod Undoing
pub mod Sections
pub mod Twos
pub mod DyadicExact

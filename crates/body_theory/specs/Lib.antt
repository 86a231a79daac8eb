pub mod Pieces
pub mod InAll
pub mod First
pub mod High

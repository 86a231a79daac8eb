pub mod Rows
pub mod Hash
pub mod Chain
pub mod Indexing

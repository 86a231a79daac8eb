pub mod Result
pub mod Pairs
pub mod Lists
pub mod Sizes

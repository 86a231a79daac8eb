pub mod Read
pub mod TextNumbers
pub mod TextsBroken
pub mod WrittenTexts

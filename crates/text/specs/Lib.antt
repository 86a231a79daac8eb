pub mod Texts
pub mod WrittenTexts
pub mod Rules

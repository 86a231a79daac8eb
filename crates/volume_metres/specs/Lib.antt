pub mod Whole
pub mod Points
pub mod Formulas

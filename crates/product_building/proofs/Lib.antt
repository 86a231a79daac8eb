pub mod CountsLaid
pub mod Built

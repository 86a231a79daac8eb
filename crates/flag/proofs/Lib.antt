pub mod ChangeAnswers
pub mod ChangeMade
pub mod ChangeBroken
pub mod FlippedByte
pub mod Making

pub mod CheckLaws
pub mod AnswerLaws
pub mod StepLaws
pub mod Settled
pub mod ShownLaws

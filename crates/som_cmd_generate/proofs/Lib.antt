pub mod PrintLaws
pub mod MainLaws
pub mod Clear
pub mod AnswerLaws

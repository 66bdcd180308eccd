pub mod KeyLaws
pub mod SameLaws
pub mod NamedLaws
pub mod TypingLaws
pub mod StepLaws
pub mod ListLaws

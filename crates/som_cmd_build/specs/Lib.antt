pub mod LibraryAnswer
pub mod ClientAnswer
pub mod Cause
pub mod PutSteps
pub mod PutEnds

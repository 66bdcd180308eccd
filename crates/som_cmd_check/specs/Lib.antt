pub mod ShowAnswer
pub mod ShowSteps
pub mod CheckAnswer
pub mod CheckSteps
pub mod Cause
pub mod ShowEnds
pub mod CheckEnds

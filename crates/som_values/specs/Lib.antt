pub mod Answers
pub mod Operators
pub mod Shown
pub mod Stored
pub mod Variables
pub mod Zeros

pub mod Growing
pub mod Refining
pub mod Releasing

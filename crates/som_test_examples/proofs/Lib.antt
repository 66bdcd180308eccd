pub mod Choices
pub mod Classes

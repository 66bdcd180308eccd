pub mod Sizes
pub mod Below
pub mod Adding

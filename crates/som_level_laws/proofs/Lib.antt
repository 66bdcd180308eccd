pub mod Breaks
pub mod OneLevel
pub mod Along
pub mod Levels
pub mod Stays
pub mod Below

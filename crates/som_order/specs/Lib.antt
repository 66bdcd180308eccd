pub mod Names
pub mod Difference

pub mod Lines
pub mod Names
pub mod Parts
pub mod Steps
pub mod Compared
pub mod EventLines

pub mod Parents
pub mod Reached
pub mod Asking

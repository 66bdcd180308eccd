pub mod Generated
pub mod Written
pub mod Texts
pub mod Making
pub mod Steps

pub mod Beginning
pub mod Stands
pub mod Advance
pub mod Run

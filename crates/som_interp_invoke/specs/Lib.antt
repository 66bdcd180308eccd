pub mod Begun
pub mod Beginning
pub mod Stepping
pub mod Chosen
pub mod Taken

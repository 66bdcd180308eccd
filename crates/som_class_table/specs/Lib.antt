pub mod Targets
pub mod Loaded
pub mod Kept
pub mod Making

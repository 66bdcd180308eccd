pub mod LevelImages
pub mod Levels
pub mod Comparing
pub mod StoredLevels
pub mod Refusals

pub mod ByLevels
pub mod Towers

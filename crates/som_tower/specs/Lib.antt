pub mod Towers
pub mod Standing

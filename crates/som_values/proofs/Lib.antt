pub mod Fitting
pub mod Found
pub mod Held
pub mod Keeping
pub mod NewCells
pub mod Places

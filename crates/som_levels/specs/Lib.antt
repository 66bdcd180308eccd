pub mod Places
pub mod Flat

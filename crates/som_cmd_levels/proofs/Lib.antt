pub mod Placing
mod Lists
mod Stacking
mod TowerFaults
pub mod Stored
mod Refused
mod Breaching
mod Telling

pub mod Firsts
pub mod Breaking
pub mod OwnNames

pub mod Lists
pub mod Pairs
pub mod Breaking
pub mod Moving
pub mod OwnNames
pub mod Naming

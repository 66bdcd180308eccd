pub mod Lists
pub mod Flattened
pub mod Naming
pub mod Leveled
pub mod Once

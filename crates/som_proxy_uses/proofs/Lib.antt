pub mod Lists
pub mod Noting
pub mod Naming
pub mod Known

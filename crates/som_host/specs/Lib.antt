pub mod Closures
pub mod Entries

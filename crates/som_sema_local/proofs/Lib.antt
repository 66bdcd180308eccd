pub mod Calling
pub mod Doubling

mod Found
pub mod Known
mod Lists
mod Changing
mod Putting

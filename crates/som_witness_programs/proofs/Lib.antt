mod Concluding
pub mod Counted
mod Entries
mod Joined
mod Open
mod Taken

pub mod Once
pub mod Sharing
pub mod SharedRows
pub mod Inheriting
pub mod Overriding
pub mod Selecting
pub mod Replacing
mod Passing

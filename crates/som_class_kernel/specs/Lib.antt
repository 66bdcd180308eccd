pub mod Linked
pub mod Entries
pub mod Kept
pub mod Shown

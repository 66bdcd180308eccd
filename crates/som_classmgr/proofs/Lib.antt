pub mod Reading
pub mod Reached
pub mod Asking
pub mod Counting
pub mod Searching
pub mod NewCells

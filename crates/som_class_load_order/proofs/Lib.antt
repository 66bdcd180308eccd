pub mod Choosing
pub mod Closing
pub mod Noting
pub mod Searching
pub mod Ordering
pub mod FirstFour

pub mod Sparing
pub mod AtFirst
pub mod Ending
pub mod Whole
pub mod Counting

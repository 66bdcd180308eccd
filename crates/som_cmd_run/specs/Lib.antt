pub mod RunAnswer
pub mod RunEnds
pub mod Newest

pub mod Introducers
pub mod Ranking
pub mod Noted
pub mod Searching

pub mod Views
pub mod Choices
pub mod Filters
pub mod Events
pub mod Places
pub mod Told
pub mod Names
pub mod Pieces

pub mod Classes
pub mod Names
pub mod Positions
pub mod Numbers
pub mod Made
pub mod Levels

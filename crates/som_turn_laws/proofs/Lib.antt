pub mod Ending
pub mod OneTurn
pub mod Taking

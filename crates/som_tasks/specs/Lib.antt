pub mod Taken
pub mod Turning
pub mod Stage
pub mod Beside
pub mod Started
pub mod Answered

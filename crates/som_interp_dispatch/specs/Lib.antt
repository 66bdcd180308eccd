pub mod Passed
pub mod Entered
pub mod Chosen

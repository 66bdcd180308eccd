pub mod Finished
pub mod Known
pub mod Selecting

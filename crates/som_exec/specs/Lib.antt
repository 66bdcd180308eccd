pub mod Came
pub mod Bursts
pub mod Doing
pub mod Going
pub mod Runs
pub mod Entered
pub mod Asked

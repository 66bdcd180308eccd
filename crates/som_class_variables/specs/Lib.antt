pub mod Variables
pub mod Placed

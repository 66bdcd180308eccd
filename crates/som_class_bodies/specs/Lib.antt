pub mod Bodies
pub mod Adding
pub mod Filling

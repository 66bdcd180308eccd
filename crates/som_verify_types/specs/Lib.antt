pub mod Codes
pub mod Bodies

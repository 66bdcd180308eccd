pub mod Breaking
pub mod Climbing
pub mod Reached
pub mod Unbroken

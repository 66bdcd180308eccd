pub mod Clients
pub mod Turns
pub mod Worked

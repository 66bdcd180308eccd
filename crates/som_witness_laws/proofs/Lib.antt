pub mod Parameters
pub mod Lengths
pub mod Clients

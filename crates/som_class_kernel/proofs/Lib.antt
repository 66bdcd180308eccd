pub mod Entering
pub mod Holding
pub mod Above
pub mod Answering
pub mod Pairing

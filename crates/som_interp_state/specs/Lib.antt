pub mod Settings
pub mod Standing
pub mod Own
pub mod Stored
pub mod Asked
pub mod Holding
pub mod Named
pub mod Tests

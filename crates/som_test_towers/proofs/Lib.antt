pub mod Standing
pub mod Owning

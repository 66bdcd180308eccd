pub mod Facts
pub mod Owning
pub mod Standing
pub mod Own
pub mod Growing

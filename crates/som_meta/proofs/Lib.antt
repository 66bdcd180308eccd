pub mod Once
pub mod Plans
pub mod Tokens

pub mod Owners
pub mod Tokens
pub mod Members
pub mod Own

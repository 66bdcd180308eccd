pub mod Kinds
pub mod Knowing
pub mod Scopes

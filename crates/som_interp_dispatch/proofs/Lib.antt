pub mod HookLaws
pub mod Signatures
pub mod Known
pub mod Owning
pub mod Naming
pub mod Finding
pub mod Staging
pub mod NextLaws

pub mod Proxied
pub mod Forms

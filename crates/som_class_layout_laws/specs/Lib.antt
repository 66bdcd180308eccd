pub mod Laying
pub mod Places
pub mod Schemes

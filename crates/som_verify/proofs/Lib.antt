pub mod Programs
pub mod Conforming
pub mod BaseAlone

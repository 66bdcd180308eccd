pub mod Naming
pub mod NamedReading

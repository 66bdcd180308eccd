pub mod Reading
pub mod Spelling
pub mod Naming
pub mod NamedReading
pub mod Libraries
pub mod Limits
pub mod Numbering

pub mod Forms
pub mod Reading
pub mod Spelling
pub mod Naming
pub mod NamedReading
pub mod Programs
pub mod Limits
pub mod Numbering

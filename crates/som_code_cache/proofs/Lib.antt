pub mod Keys
pub mod Entries
pub mod Adding
pub mod Consequences

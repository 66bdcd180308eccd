pub mod Tokens
pub mod Languages
pub mod Readers
pub mod Answer
pub mod Words
pub mod Seen
pub mod Faults

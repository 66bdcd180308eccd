pub mod Numbering
pub mod Planning

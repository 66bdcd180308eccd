pub mod Seen
pub mod Ranked
pub mod Noting
pub mod Marks

pub mod Entries
pub mod Tokens
pub mod Meant
pub mod Marks
pub mod Filled
pub mod Parts
pub mod Order
pub mod Introducing

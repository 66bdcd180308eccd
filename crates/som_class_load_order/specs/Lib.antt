pub mod Metas
pub mod Searching

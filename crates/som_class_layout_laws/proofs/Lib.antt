pub mod Rows
pub mod DataRows
pub mod FirstParent
pub mod Members
pub mod Scheme

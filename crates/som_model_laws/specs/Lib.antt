pub mod First
pub mod Added
pub mod Once
pub mod Rows
pub mod Metaclasses
pub mod Owning
pub mod Keeping

pub mod Values
pub mod Heaps
pub mod Checks
pub mod Checked
pub mod Preserving

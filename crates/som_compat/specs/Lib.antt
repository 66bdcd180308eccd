pub mod Conditions
pub mod Metaclasses
pub mod Plainly
pub mod KernelSigs
pub mod Finding
pub mod Views
pub mod Marks
pub mod Told

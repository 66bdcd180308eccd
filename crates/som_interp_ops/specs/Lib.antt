pub mod Cells
pub mod Doing

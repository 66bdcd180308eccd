pub mod Acting
pub mod Cells
pub mod Objects
pub mod Statics
pub mod Making
pub mod Targets

pub mod Blocks
pub mod Contexts
pub mod Elaboration
pub mod Modules

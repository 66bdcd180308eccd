pub mod Naming
pub mod NamedBlocks
pub mod BlockLimits
pub mod Tests
pub mod Forms

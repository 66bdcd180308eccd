pub mod Numbering
pub mod FoundNames
pub mod NumberedBlocks
pub mod ReadyBlocks
pub mod NumberedClasses

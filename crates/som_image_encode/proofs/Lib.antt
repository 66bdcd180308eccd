pub mod Numbering
pub mod NumberedKinds
pub mod TypedBlocks
pub mod KnownMethods
pub mod TurnedBlocks
pub mod FoundNames
pub mod SelectsSoFar
pub mod Directories

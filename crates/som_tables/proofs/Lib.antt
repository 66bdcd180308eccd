pub mod Inherited
pub mod Laid
pub mod LateRows
pub mod NextBlocks
pub mod NextPages
pub mod NextRow
pub mod Options
pub mod Paging

pub mod Going
pub mod OneTable

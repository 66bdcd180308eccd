pub mod Trees
pub mod Files

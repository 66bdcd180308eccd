pub mod Files
pub mod ShownLaws

mod BaseLaws
mod PlacedLaws
pub mod CompileLaws
pub mod BuildRefusals
pub mod PutFiles
pub mod PutAnswered
pub mod PutEndLaws

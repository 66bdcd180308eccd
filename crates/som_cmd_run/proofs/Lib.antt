pub mod RunStatuses
pub mod Running
pub mod RunEndLaws
pub mod NewestLaws

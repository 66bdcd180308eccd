pub mod Texts
pub mod Parts
pub mod Statuses
pub mod Getting
pub mod PutAnswer
pub mod Compiled

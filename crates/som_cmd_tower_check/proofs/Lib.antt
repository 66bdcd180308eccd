mod Reading
mod Getting
mod Refusing
mod Promising
mod Comparing
pub mod CheckLaws
pub mod CheckEndLaws

mod Reading
mod Comparing
mod Laying
mod Failing
mod Refusing
pub mod Turning
mod Ending
mod Telling
mod Taking
pub mod TasksEndLaws
pub mod NewestLaws

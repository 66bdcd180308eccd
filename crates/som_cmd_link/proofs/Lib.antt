pub mod Reading
mod Failing
pub mod Refusals
mod Linking

pub mod Local
pub mod Fields
pub mod Syntax
pub mod Classes
pub mod Placed
pub mod Stopping
pub mod Images
pub mod Towers

pub mod Filling
pub mod Placing
pub mod Having
pub mod Starting

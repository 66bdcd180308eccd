pub mod Firsts
pub mod Bodies
pub mod Telling

pub mod Firsts
pub mod Known
pub mod Meant
pub mod Rows

pub mod Noted
pub mod Parting

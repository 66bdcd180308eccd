pub mod Conditions
pub mod Lent
pub mod Made
pub mod Texted

mod Standing
mod Asked
pub mod Coded
pub mod Pushing
mod Found
mod Called
mod Written
mod Made
pub mod Entering
pub mod Firsts
mod Waits
mod Stepped
pub mod Coming
pub mod Began
pub mod Costing

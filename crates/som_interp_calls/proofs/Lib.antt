mod Arguments
mod Beginning
mod Casting
mod Nexts
mod Objects
mod Dispatches
mod Firsts
mod Freeing
pub mod Going
mod Growing
mod Naming
pub mod Offset
mod Upwards
pub mod Passing
pub mod Pushing
mod Staying
pub mod Whole

pub mod Tops
pub mod Moved
pub mod Done

pub mod Faces
pub mod Replacing
pub mod Modules

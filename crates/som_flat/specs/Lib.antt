pub mod FlatFaces
pub mod Breaches
pub mod Told

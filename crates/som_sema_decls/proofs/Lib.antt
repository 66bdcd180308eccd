pub mod Declaring
pub mod Introducers
pub mod PlacedFaces

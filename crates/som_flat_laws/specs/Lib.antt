pub mod Flat
pub mod Made
pub mod AcceptedTower

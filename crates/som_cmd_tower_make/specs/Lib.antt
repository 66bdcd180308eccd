pub mod TowerParts
pub mod Bases
pub mod TowerMakeAnswer
pub mod Statuses
pub mod Cause
pub mod TowerMakeEnds

pub mod Libraries
pub mod TowerCheckAnswer
pub mod TowerCheckEnds

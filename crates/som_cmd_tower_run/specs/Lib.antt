pub mod Steps
pub mod Kernels
pub mod Faults
pub mod Refusals
pub mod TowerRunAnswer
pub mod TowerRunEnds
pub mod TowerNewest

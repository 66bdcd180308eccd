pub mod LevelTrees
pub mod LevelLaws

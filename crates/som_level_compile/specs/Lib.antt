pub mod CompilingLevels

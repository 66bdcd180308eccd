pub mod WorldLaws
pub mod CallLaws
pub mod LoopLaws
pub mod FuelLaws
pub mod TextLaws
pub mod MadeLaws
pub mod Runs

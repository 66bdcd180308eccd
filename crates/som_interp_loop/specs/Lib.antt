pub mod Scene
pub mod Moving
pub mod NextInstruction
pub mod Standing
pub mod Stepped
pub mod Counted
pub mod Ran
pub mod Burst

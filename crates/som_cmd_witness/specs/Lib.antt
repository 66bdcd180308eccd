pub mod Releases
pub mod Lines
pub mod WitnessSteps
pub mod WitnessAnswer
pub mod Cause
pub mod WitnessEnds

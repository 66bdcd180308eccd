mod Comparing
mod Failing
mod LineLaws
mod Outcomes
mod PutLaws
mod Reading
mod Refusals
mod Room
mod Stopping
mod Telling
pub mod WitnessEndLaws
pub mod WitnessLaws

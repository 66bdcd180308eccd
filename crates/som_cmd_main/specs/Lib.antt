pub mod Traces
pub mod Mains

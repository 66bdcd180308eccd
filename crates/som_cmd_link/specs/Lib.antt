pub mod Cause
pub mod Pairs
pub mod Refusals
pub mod Faults
pub mod Kernels

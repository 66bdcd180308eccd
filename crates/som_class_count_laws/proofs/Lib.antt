pub mod Fewer
pub mod Chains
pub mod Counting

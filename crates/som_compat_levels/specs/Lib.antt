pub mod Conditions
pub mod Standing
pub mod Owners
pub mod Tables
pub mod Pairs
pub mod Told

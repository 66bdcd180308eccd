pub mod NameLaws
pub mod ItemLaws
pub mod FileLaws
pub mod NameFound
pub mod ItemFound
pub mod FileFound
pub mod Theorem
pub mod WithinLimits

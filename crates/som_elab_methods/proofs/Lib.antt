pub mod LimitLaws
pub mod Selecting
pub mod Grouping
pub mod OwnTexts
pub mod NamedClasses
pub mod Fitting
pub mod Accessing
pub mod Tabled

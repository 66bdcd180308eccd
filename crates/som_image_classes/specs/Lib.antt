pub mod ReadClasses
pub mod SpelledClasses
pub mod NamedClasses
pub mod NamedReading
pub mod ClassLimits
pub mod Interfaces

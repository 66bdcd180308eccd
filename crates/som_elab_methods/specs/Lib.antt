pub mod Accessors
pub mod Bodies
pub mod Texts
pub mod Tables
pub mod OwnDrafts
pub mod Grouped
pub mod Limits
pub mod PlainLimits

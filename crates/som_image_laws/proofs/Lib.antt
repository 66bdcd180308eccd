pub mod NumberedFaces
pub mod NumberedParts
pub mod NumberedSelects
pub mod ReadyClasses
pub mod NumberedClasses

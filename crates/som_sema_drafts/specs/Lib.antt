pub mod Items
pub mod Drafts
pub mod Demands
pub mod Refusals

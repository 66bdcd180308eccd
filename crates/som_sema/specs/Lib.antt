pub mod TextRules
pub mod Ancestry
pub mod Building
pub mod PlainTexts

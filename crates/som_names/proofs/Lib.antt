pub mod ByName
pub mod TokenLaws

pub mod ExprLaws
pub mod TypedForms
pub mod BlockSteps
pub mod BodySteps
pub mod Grounds
pub mod ArgLaws
pub mod PartLaws

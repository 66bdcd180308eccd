mod ImageKinds
pub mod ShowLaws
pub mod CheckLaws
mod CheckMeaning
mod Comparing
mod CheckRefusals
pub mod ShowEndLaws
pub mod CheckEndLaws

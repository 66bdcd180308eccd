mod Checked
mod Breaking
mod Laid
mod Failing
mod Refusing
mod Running
pub mod TowerRunEndLaws
mod Unbroken
pub mod TowerNewestLaws
mod SameKeys
mod FirstBreaks
mod OneLevel
mod FlatAlone

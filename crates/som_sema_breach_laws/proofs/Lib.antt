pub mod Firsts
pub mod RuleNames
pub mod Telling
pub mod OneTold
pub mod TellsFirst

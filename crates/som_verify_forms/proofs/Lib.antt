pub mod KindLaws
pub mod Facts
pub mod NamesKnown
pub mod Keeping
pub mod KnownLaws
pub mod CallLaws
pub mod KindLists

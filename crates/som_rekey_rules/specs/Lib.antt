pub mod NamesAlone
pub mod NewTypes

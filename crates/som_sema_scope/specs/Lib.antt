pub mod Words
pub mod ClassNames

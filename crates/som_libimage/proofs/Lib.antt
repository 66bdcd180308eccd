pub mod LibraryFields
pub mod NamedReleases
pub mod NumberedReleases
pub mod Ready
pub mod Turned
pub mod NamedLibrary
pub mod Decoded
pub mod Encoded

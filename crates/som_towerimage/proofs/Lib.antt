pub mod HeadFields
pub mod LevelFields
pub mod Decoded
pub mod Encoded

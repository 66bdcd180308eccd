pub mod FirstToken
pub mod CutPieces
pub mod SeenPieces
pub mod Joined

pub mod Rekeying
pub mod Apart
pub mod Alike
pub mod AlikeFacts

pub mod Machine
pub mod Effect
pub mod Sound
pub mod Laid
pub mod Same

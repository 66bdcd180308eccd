pub mod ChangesApart
pub mod LevelClasses
pub mod LevelPrograms
pub mod KeptByFaces
pub mod TowersLoad
pub mod FacesStand
pub mod LevelsStand
pub mod Counted

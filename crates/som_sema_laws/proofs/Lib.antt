pub mod Placed
pub mod Once
pub mod Declaring
pub mod Facing
pub mod OneFace
pub mod SameFaces
pub mod ItemLaws
pub mod Texts

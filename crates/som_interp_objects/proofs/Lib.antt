pub mod Zero
pub mod ObjectClasses
pub mod Placed
pub mod Reading
pub mod Writing
pub mod Nexts
pub mod Ends
pub mod Asked

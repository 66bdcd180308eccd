pub mod ImageLaws
pub mod FileLaws
pub mod ByteLaws
pub mod ReleaseLaws
pub mod InTurn
mod SayLaws
pub mod FieldFaults
mod BlockFaults
mod SelectFaults
pub mod FaultLaws
pub mod Printed
pub mod OutcomeLaws
pub mod Statuses

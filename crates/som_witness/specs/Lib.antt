pub mod Program
pub mod Showings
pub mod Verdicts
pub mod Wording

pub mod GenerateAnswer
pub mod Printing
pub mod AfterMain
pub mod Stopping
pub mod GenerateEnds

pub mod Outside
pub mod Store
pub mod Sink
pub mod Line
pub mod Calls
pub mod Leaves
pub mod MemStore
pub mod MemSink

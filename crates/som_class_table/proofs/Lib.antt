pub mod Entries
pub mod LoadedProxies
pub mod Loading
pub mod Proxying
pub mod LoadedClasses
pub mod Bodies
pub mod Listing

pub mod Lists
pub mod Later
pub mod Objects
pub mod Classes
pub mod Stages
pub mod Asking

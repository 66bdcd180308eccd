pub mod Levels
pub mod Naming
pub mod NamedExprs
pub mod NamedStmts

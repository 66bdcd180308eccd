pub mod OwnRules

pub mod NothingTwice

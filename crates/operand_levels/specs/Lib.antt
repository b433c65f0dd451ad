pub mod Levels
pub mod Raised

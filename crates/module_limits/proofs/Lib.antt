pub mod Levels
pub mod Deeper
pub mod Tables

pub mod Constructs
pub mod Errors

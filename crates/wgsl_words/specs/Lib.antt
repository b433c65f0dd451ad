pub mod Words
pub mod Diagnostics

pub mod Doubles
mod Examples
pub mod Numerals

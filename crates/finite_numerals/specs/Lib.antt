pub mod Nearest
pub mod Search

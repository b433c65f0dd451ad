pub mod Cutting
mod Examples
pub mod Floats
pub mod Neighbours
pub mod Rounded
pub mod Search
pub mod Sizes
pub mod Steps
pub mod Units

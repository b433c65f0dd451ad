pub mod Halves
pub mod Sizes

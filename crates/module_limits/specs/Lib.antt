pub mod Depths
pub mod Blocks
pub mod Nesting
pub mod BoundedText

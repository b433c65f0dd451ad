pub mod Denoted
pub mod Half

pub mod Wants
pub mod Counts
pub mod WriteOutcomes
pub mod Refusals
pub mod Shaders
pub mod Opening
pub mod Within
pub mod StandardNames

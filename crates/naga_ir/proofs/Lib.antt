pub mod Blocks
pub mod Listed
mod Sampled
mod Remaining

pub mod AddedLines
pub mod Choosing
pub mod FittingTypes
pub mod Giving
pub mod Seeking

pub mod Answers
pub mod NamedItems

pub mod Numbered
pub mod Rules

pub mod Choice
pub mod Givers
pub mod Lines
pub mod Named
pub mod OneLine

pub mod ErrorTexts
pub mod Following
pub mod Functions
pub mod Inferred
pub mod Passes
pub mod Rules
pub mod Types

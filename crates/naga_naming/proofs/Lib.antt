pub mod Assigned
pub mod Ends
mod Examples
pub mod Keys
pub mod Label
pub mod Members
pub mod NameShapes
pub mod NamedItems
pub mod Naming
pub mod Numerals
pub mod Outputs
pub mod Refusal
pub mod Reset
pub mod Stems
pub mod TypeNames

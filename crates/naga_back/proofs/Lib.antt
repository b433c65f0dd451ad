pub mod FixedInputs
pub mod Indentations

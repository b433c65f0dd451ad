pub mod Baking
pub mod FixedInput
pub mod Flags
pub mod FunctionContext
pub mod Indentation
pub mod Kinds
pub mod Rays

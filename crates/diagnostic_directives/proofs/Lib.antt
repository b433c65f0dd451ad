pub mod Chains
mod DirectiveExamples
pub mod Keeping
pub mod Walking

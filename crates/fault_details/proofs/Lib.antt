pub mod Apart
pub mod Completing
pub mod Disagreeing
pub mod Fitting
pub mod FunctionReasons
pub mod Holding
pub mod NameReasons
pub mod Passing
pub mod Reasoning
pub mod ScalarsApart
mod TextExamples
pub mod UsesBefore

-- The rules by which a module is accepted, with what is known of it.
pub mod Accepted
pub mod AgreeingOperators
pub mod ExpressionTypes
pub mod InfoSizes
pub mod Initialisers
pub mod NamedItems
pub mod Numbers
pub mod OperandDemands
pub mod Operations
pub mod Ranges
pub mod Soundness
pub mod StatementsFit

mod OperandRoles
mod PositionExamples
pub mod Walking

pub mod Faults
pub mod Roles
pub mod Positions
pub mod Labels
pub mod Roots
pub mod ScopeRoots
pub mod JsonNesting

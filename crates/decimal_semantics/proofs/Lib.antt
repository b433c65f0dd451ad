pub mod SideBySide
pub mod DecimalFunctions
pub mod DecimalNames
pub mod DecimalContexts
pub mod MemoryPlaces
pub mod DecimalShapes
pub mod DecimalInterfaces
pub mod DecimalFaithfully

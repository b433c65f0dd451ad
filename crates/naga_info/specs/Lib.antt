pub mod Resolution
pub mod UseCounts

pub mod Identifiers
pub mod NameMaps

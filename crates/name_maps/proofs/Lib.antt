pub mod DeclaredIdentifiers
pub mod FewMembers
pub mod MadeRows
mod NameMapExamples
pub mod NoFloats
pub mod SameMaps

pub mod Fields
pub mod VariantNames

mod Lists
mod Numerals
mod Blocks
pub mod LabelMaps
pub mod TypeLists
pub mod SeenModules
pub mod Filters

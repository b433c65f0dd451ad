pub mod Names
pub mod Filters
pub mod Directives
pub mod Found

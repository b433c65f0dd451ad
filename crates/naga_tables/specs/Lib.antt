pub mod Declarations
pub mod Forms
pub mod Marks
pub mod Refusals
pub mod Tables

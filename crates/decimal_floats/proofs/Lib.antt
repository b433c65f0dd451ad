pub mod Literals
pub mod Lists
pub mod DecimalItems
pub mod Acceptance

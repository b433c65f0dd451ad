pub mod Ends
pub mod Progress

mod Ends
pub mod Progress

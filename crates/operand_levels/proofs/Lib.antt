pub mod Accepted
pub mod Raising
pub mod Shallow

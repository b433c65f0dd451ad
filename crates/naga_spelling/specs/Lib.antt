pub mod Contexts
pub mod Segments
pub mod Sink
pub mod Spelling
pub mod Values
pub mod Words

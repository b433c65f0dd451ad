pub mod Empties
pub mod FoundWords
pub mod SegmentWriting
pub mod Writing

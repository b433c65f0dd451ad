pub mod Plains
pub mod SetLemmas
pub mod Halving
pub mod SortedSets
pub mod Rearranged

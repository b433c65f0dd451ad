pub mod Plain
pub mod Words
pub mod SortedWords

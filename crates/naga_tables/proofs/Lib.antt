pub mod FilledTables
pub mod Finding
pub mod FirstMisplaced
pub mod Marking
pub mod Refusals
pub mod Searching
pub mod UnsupportedDeclarations
pub mod WrittenConstants

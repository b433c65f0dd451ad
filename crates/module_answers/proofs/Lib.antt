mod Alone
pub mod Bounded
mod Wants
mod RaisedCounts
mod Openings
pub mod StandardNames

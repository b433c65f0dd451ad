pub mod Diagnostics
pub mod Handing
pub mod Limited
pub mod Output
pub mod Predeclared
pub mod Rules

pub mod Demands
pub mod Holds
pub mod OtherUses
pub mod Reasons
pub mod Shown
pub mod Texts
pub mod Told
pub mod WithReason

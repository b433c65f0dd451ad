-- Declarations, and a module's own expressions, of which initialisers are made.
pub mod AcceptedGroups
pub mod Attributes
pub mod ConstantInitialisers
pub mod ConstantOrder
pub mod ConstantsFit
pub mod DeclaredPrograms
pub mod DeclaredStructs
pub mod GlobalValues
pub mod Interface
pub mod NamedConstants
pub mod OtherVariables
pub mod OwnExpressions
pub mod ReadDeclarations
pub mod TextItems

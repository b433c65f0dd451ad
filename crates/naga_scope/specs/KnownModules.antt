-- A module that is written, with what is known of it, as contracts see it.
--
-- Throughout, k is such a module, and ty says which of its functions is meant.
use Rattle.std.specs.Prelude.{ℕ, Bool, List, IsTrue}
use Rattle.module_semantics.specs.FunctionNumbers.{function_number}
use Rattle.module_semantics.specs.Names.{HasNamesOf, labels_named_in}
use Rattle.module_semantics.specs.acceptance.Accepted.{is_accepted}
use Rattle.naga_back.specs.Flags.{annotates_types}
use Rattle.naga_back.specs.declared.context.FunctionType.{FunctionType}
use Rattle.naga_naming.specs.Keys.{names_in}
use Rattle.naga_scope.specs.Plans.{IsPlanOf, Planned}
use Rattle.naga_tables.specs.Tables.{AreTablesOf}
use Rattle.naga_scope.specs.declared.known_module.KnownModule.{KnownModule}

-- it is accepted with what is known of it, and has its names, and what is looked up of it
pub record IsKnownModule (k : KnownModule) : Type 0 where
  pub accepted : IsTrue (is_accepted k.shader.now k.info.now)
  pub named : HasNamesOf k.shader.now (names_in k.names.now)
  pub tables : AreTablesOf k.shader.now k.tables.now

-- whether `let`s tell types
abbrev pub explicit_in : KnownModule → Bool
explicit_in k = annotates_types k.flags

-- the number of a function among those of the module, and the labels that front ends gave in it
abbrev pub number_in : KnownModule → FunctionType → ℕ
number_in k ty = function_number k.shader.now ty

abbrev pub labels_in : KnownModule → FunctionType → List (List ℕ)
labels_in k ty = labels_named_in k.shader.now (number_in k ty)

-- it is a plan of the function
abbrev pub IsPlanIn : KnownModule → FunctionType → Planned → Type 0
IsPlanIn k ty plan = IsPlanOf (explicit_in k) k.shader.now k.info.now (number_in k ty) plan

-- The labels of functions and entry points, by positions at which a module is refused or not
-- accepted.
--
-- Throughout, m is a module, h the handle of a function, i the index of an entry point, and at is a
-- position or a part of a function.
use Rattle.std.specs.Prelude.{ℕ, List, None, Option, slice_get, string_bytes}
use Rattle.std.specs.Option.{option_and_then, option_map}
use Rattle.naga_ir.specs.declared.module.Module.{Module}
use Rattle.naga_acceptance.specs.declared.faults.FaultPosition.{FaultPosition}
use Rattle.naga_acceptance.specs.declared.faults.FaultPosition.TheVariants as item
use Rattle.naga_tables.specs.declared.declarations.DeclarationPosition.{DeclarationPosition}
use Rattle.naga_tables.specs.declared.declarations.DeclarationPosition.TheVariants as declaration
use Rattle.naga_scope.specs.declared.positions.RefusalPosition.{RefusalPosition}
use Rattle.naga_scope.specs.declared.positions.RefusalPosition.TheVariants as refused

-- the label of a function, if it is there and has one, and of an entry point, if it is there
abbrev pub function_label : Module → (h : ℕ) → Option (List ℕ)
function_label m h = option_and_then (λ f. option_map string_bytes f.name) (slice_get m.functions h)

abbrev pub entry_point_label : Module → (i : ℕ) → Option (List ℕ)
entry_point_label m i = option_map (λ p. string_bytes p.name) (slice_get m.entry_points.items i)

-- the label of the one that this position is in; other declarations have none
abbrev pub declaration_label : Module → (at : DeclarationPosition) → Option (List ℕ)
declaration_label m (declaration.Function h) = function_label m h
declaration_label m (declaration.EntryPoint i) = entry_point_label m i
declaration_label m _ = None

abbrev pub label_at : Module → (at : RefusalPosition) → Option (List ℕ)
label_at m refused.Labels = None
label_at m (refused.Declaration at) = declaration_label m at
label_at m (refused.Function h part) = function_label m h
label_at m (refused.EntryPoint i part) = entry_point_label m i

-- the label of the one that an item is, or stands in
abbrev pub label_of : Module → FaultPosition → Option (List ℕ)
label_of m (item.Function h at) = function_label m h
label_of m (item.EntryPoint i at) = entry_point_label m i
label_of m _ = None

-- What a line names, whose lines are shown too, and statements by their numbers.
--
-- Throughout, m is a module, f a function and s a statement.
use Rattle.std.specs.Prelude.{ℕ, zero, suc, List, [], ◌∷◌, ◌++◌, map, slice_get, take}
use Rattle.std.specs.Prelude.{Option, Some, Result, Ok, Err}
use Rattle.std.specs.Option.{option_map_or, option_to_list}
use Rattle.naga_ir.specs.declared.expression.Expression.{Expression}
use Rattle.naga_ir.specs.declared.expression.Expression.TheVariants as expression
use Rattle.naga_ir.specs.declared.module.Function.{Function}
use Rattle.naga_ir.specs.declared.module.Module.{Module}
use Rattle.naga_ir.specs.declared.types.ArraySize.{ArraySize}
use Rattle.naga_ir.specs.declared.types.ArraySize.TheVariants as size
use Rattle.naga_ir.specs.declared.types.TypeInner.{TypeInner}
use Rattle.naga_ir.specs.declared.types.TypeInner.TheVariants as inner
use Rattle.naga_ir.specs.Operands.{expression_operands, own_operands, own_result}
use Rattle.naga_ir.specs.InOrder.{trees_in, trees_inside}
use Rattle.naga_ir.specs.StatementTree.{StatementTree}
use Rattle.naga_listing.specs.Givers.{giver}
use Rattle.naga_listing.specs.declared.positions.Listed.{Listed}
use Rattle.naga_listing.specs.declared.positions.Listed.TheVariants as listed
use Rattle.naga_listing.specs.declared.positions.ListingPosition.{ListingPosition}
use Rattle.naga_listing.specs.declared.positions.Spot.{Spot}
use Rattle.naga_listing.specs.declared.positions.Spot.TheVariants as spot

-- ---- statements in the order of the text
-- a statement and those inside it
abbrev pub statement_trees : StatementTree → List StatementTree
statement_trees s = s ∷ trees_inside s

-- the one before which so many stand, or how many are left to be gone past
abbrev pub sought : ℕ → List StatementTree → Result StatementTree ℕ
sought left [] = Err left
sought zero (s ∷ ss) = Ok s
sought (suc left) (s ∷ ss) = sought left ss

-- what a search found, by a view of it
abbrev pub found_as : {X Y E : Type 0} → (X → Y) → Result X E → Result Y E
found_as view (Ok x) = Ok (view x)
found_as view (Err e) = Err e

-- ---- what is named

-- at most so many are shown
abbrev pub most_named : ℕ
most_named = 6

abbrev pub operand_spots : List ℕ → List Spot
operand_spots handles = map spot.Expression (take most_named handles)

-- of a statement its operands and its result
abbrev pub statement_spots : StatementTree → List Spot
statement_spots s = operand_spots (own_operands s) ++ map spot.Expression (option_to_list (own_result s))

-- of an expression its operands, and the first statement that gives it
abbrev pub given_spots : Function → ℕ → Expression → List Spot
given_spots f handle e =
    operand_spots (expression_operands e)
    ++ map spot.Statement (option_to_list (giver f.body handle))

-- what a part of a function names of it
abbrev pub spots_in_function : Function → Spot → List Spot
spots_in_function f (spot.Local handle) =
    option_map_or (λ local. map spot.Expression (option_to_list local.init))
    (slice_get f.local_variables handle) []
spots_in_function f (spot.Expression handle) =
    option_map_or (given_spots f handle) (slice_get f.expressions handle) []
spots_in_function f (spot.Statement number) =
    option_map_or statement_spots (slice_get (trees_in f.body) number) []
spots_in_function f _ = []

abbrev pub size_spots : ArraySize → List Spot
size_spots (size.Pending handle) = spot.Override handle ∷ []
size_spots _ = []

abbrev pub type_spots : TypeInner → List Spot
type_spots (inner.Pointer base space) = spot.Type_ base ∷ []
type_spots (inner.Array base size stride) = spot.Type_ base ∷ size_spots size
type_spots (inner.BindingArray base size) = spot.Type_ base ∷ size_spots size
type_spots (inner.Struct members span) =
    map (λ member. spot.Type_ member.ty) (take most_named members.items)
type_spots _ = []

-- a type, and an initialiser if there is one
abbrev pub typed_spots : ℕ → Option ℕ → List Spot
typed_spots ty init = spot.Type_ ty ∷ map spot.GlobalExpression (option_to_list init)

-- what one of the module's own expressions names beside its operands
abbrev pub beside_operands : Expression → List Spot
beside_operands (expression.Constant handle) = spot.Constant handle ∷ []
beside_operands (expression.Override handle) = spot.Override handle ∷ []
beside_operands (expression.ZeroValue ty) = spot.Type_ ty ∷ []
beside_operands (expression.Compose ty components) = spot.Type_ ty ∷ []
beside_operands _ = []

abbrev pub global_spots : Expression → List Spot
global_spots e =
    map spot.GlobalExpression (take most_named (expression_operands e)) ++ beside_operands e

-- what a declaration names
abbrev pub declaration_spots : Module → Spot → List Spot
declaration_spots m (spot.Type_ handle) =
    option_map_or (λ t. type_spots t.inner) (slice_get m.types handle) []
declaration_spots m (spot.Constant handle) =
    option_map_or (λ c. typed_spots c.ty (Some c.init)) (slice_get m.constants handle) []
declaration_spots m (spot.Override handle) =
    option_map_or (λ o. typed_spots o.ty o.init) (slice_get m.overrides handle) []
declaration_spots m (spot.GlobalVariable handle) =
    option_map_or (λ v. typed_spots v.ty v.init) (slice_get m.global_variables handle) []
declaration_spots m (spot.GlobalExpression handle) =
    option_map_or global_spots (slice_get m.global_expressions handle) []
declaration_spots m _ = []

abbrev pub listed_spots : Module → Listed → Spot → List Spot
listed_spots m listed.Declarations s = declaration_spots m s
listed_spots m (listed.Function handle) s =
    option_map_or (λ f. spots_in_function f s) (slice_get m.functions handle) []
listed_spots m (listed.EntryPoint index) s =
    option_map_or (λ e. spots_in_function e.function s) (slice_get m.entry_points.items index) []

-- what a position names, and what is to be seen beside it
abbrev pub named_spots : Module → ListingPosition → List Spot
named_spots m p = listed_spots m p.listed p.spot ++ option_to_list p.beside

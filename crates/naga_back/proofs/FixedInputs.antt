-- A walk from an expression towards the argument that it is a part of, which keeps the builtin
-- value that was met last.
use Rattle.std.proofs.Common.{◌≡◌, ℕ, ◌+◌, ◌-◌, ◌<◌, ◌≤◌, zero, suc, length, List, [], ◌∷◌, ◌++◌}
use Rattle.std.proofs.Common.{Option, Some, None, slice_get, refl, ap, sym, ◌∙◌, arith}
use Rattle.std.specs.Option.{option_and_then, option_map, option_or}
use Rattle.std.proofs.lemmas.Option.{slice_get_past}
use Rattle.naga_ir.specs.declared.binding.Binding.{Binding}
use Rattle.naga_ir.specs.declared.binding.BuiltIn.{BuiltIn}
use Rattle.naga_ir.specs.declared.expression.Expression.{Expression}
use Rattle.naga_ir.specs.declared.expression.Expression.TheVariants.{FunctionArgument, AccessIndex}
use Rattle.naga_ir.specs.declared.module.FunctionArgument.{FunctionArgument as Argument}
use Rattle.naga_naming.proofs.Reset.{option_or-assoc, option_or-none}
use Rattle.naga_back.specs.FixedInput.{builtin_of, way_by, way_of, first_builtin}

-- the value named by a way, or where it names none the one found so far
abbrev pub named_by : Option BuiltIn → List (Option Binding) → Option BuiltIn
named_by found way = option_or (first_builtin way) found

-- what is left to answer at a handle, with so many steps left and the value found so far
unfoldable pub rest_of_walk : List Argument → (ℕ → ℕ → Option (Option Binding)) → List Expression →
    (steps : ℕ) → ℕ → Option BuiltIn → Option BuiltIn
rest_of_walk arguments member es steps handle found =
    option_and_then (named_by found) (way_of arguments member es steps handle)

begins : (o : Option (List (Option Binding))) → option_and_then first_builtin o ≡ option_and_then (named_by None) o
begins None = refl
begins (Some way) = sym (option_or-none (first_builtin way))

sub_none : (n : ℕ) → n - 0 ≡ n
sub_none n = omega arith

none_left : (n k : ℕ) → n ≤ k → n - k ≡ 0
none_left n k no_less = omega arith

-- one step fewer is left
step_taken : (n k : ℕ) → k < n → n - k ≡ suc (n - (k + 1))
step_taken n k below = omega arith

first-append : (way : List (Option Binding)) (b : Option Binding) (found : Option BuiltIn) →
    named_by found (way ++ b ∷ []) ≡ named_by (option_or (builtin_of b) found) way
first-append [] b found = ap (λ o. option_or o found) (option_or-none (builtin_of b))
first-append (x ∷ way) b found =
    option_or-assoc (builtin_of x) (first_builtin (way ++ b ∷ [])) found ∙
    ap (λ o. option_or (builtin_of x) o) (first-append way b found) ∙
    sym (option_or-assoc (builtin_of x) (first_builtin way) (option_or (builtin_of b) found))

append-later : (o : Option (List (Option Binding))) (b : Option Binding) (found : Option BuiltIn) →
    option_and_then (named_by found) (option_map (λ way. way ++ b ∷ []) o)
    ≡ option_and_then (named_by (option_or (builtin_of b) found)) o
append-later None b found = refl
append-later (Some way) b found = first-append way b found

-- at the beginning nothing is found
pub walk_begins : (arguments : List Argument) (member : ℕ → ℕ → Option (Option Binding)) (es : List Expression)
    (steps handle : ℕ) →
    option_and_then first_builtin (way_of arguments member es steps handle) ≡ rest_of_walk arguments member es
    (steps - 0) handle None
unfolding rest_of_walk
walk_begins arguments member es steps handle =
    begins (way_of arguments member es steps handle)
    ∙ ap (λ n. option_and_then (named_by None) (way_of arguments member es n handle)) (sym (sub_none steps))

-- with no step left nothing is answered
pub walk_ends : (arguments : List Argument) (member : ℕ → ℕ → Option (Option Binding)) (es : List Expression)
    (n k handle : ℕ) (found : Option BuiltIn) →
    n ≤ k → rest_of_walk arguments member es (n - k) handle found ≡ None
unfolding rest_of_walk
walk_ends arguments member es n k handle found no_less =
    ap (λ s. option_and_then (named_by found) (way_of arguments member es s handle)) (none_left n k no_less)

at_expression : (arguments : List Argument) (member : ℕ → ℕ → Option (Option Binding)) (es : List Expression)
    (n k handle : ℕ) (found : Option BuiltIn) (e : Expression) →
    k < n → slice_get es handle ≡ Some e →
    rest_of_walk arguments member es (n - k) handle found ≡ option_and_then (named_by found)
    (way_by arguments member (way_of arguments member es (n - (k + 1))) e)
unfolding rest_of_walk
at_expression arguments member es n k handle found e below is_there =
    ap (λ s. option_and_then (named_by found) (way_of arguments member es s handle)) (step_taken n k below) ∙
    ap (λ o. option_and_then (named_by found)
    (option_and_then (way_by arguments member (way_of arguments member es (n - (k + 1)))) o)) is_there

-- a member goes on at the struct that it is taken of
pub walk_at_member : (arguments : List Argument) (member : ℕ → ℕ → Option (Option Binding))
    (es : List Expression) (n k handle : ℕ) (found : Option BuiltIn) (base index : ℕ) (b : Option Binding) →
    k < n → slice_get es handle ≡ Some (AccessIndex base index) → member base index ≡ Some b →
    rest_of_walk arguments member es (n - k) handle found ≡ rest_of_walk arguments member es (n - (k + 1)) base
    (option_or (builtin_of b) found)
unfolding rest_of_walk
walk_at_member arguments member es n k handle found base index b below is_there is_member =
    at_expression arguments member es n k handle found (AccessIndex base index) below is_there ∙
    ap (λ o. option_and_then (named_by found)
    (option_and_then (λ binding. option_map (λ way. way ++ binding ∷ [])
    (way_of arguments member es (n - (k + 1)) base)) o)) is_member ∙
    append-later (way_of arguments member es (n - (k + 1)) base) b found

-- no member, no way
pub walk_without_member : (arguments : List Argument) (member : ℕ → ℕ → Option (Option Binding))
    (es : List Expression) (n k handle : ℕ) (found : Option BuiltIn) (base index : ℕ) →
    k < n → slice_get es handle ≡ Some (AccessIndex base index) → member base index ≡ None →
    rest_of_walk arguments member es (n - k) handle found ≡ None
walk_without_member arguments member es n k handle found base index below is_there is_member =
    at_expression arguments member es n k handle found (AccessIndex base index) below is_there ∙
    ap (λ o. option_and_then (named_by found)
    (option_and_then (λ binding. option_map (λ way. way ++ binding ∷ [])
    (way_of arguments member es (n - (k + 1)) base)) o)) is_member

-- at an argument the walk ends
pub walk_at_argument : (arguments : List Argument) (member : ℕ → ℕ → Option (Option Binding))
    (es : List Expression) (n k handle : ℕ) (found : Option BuiltIn) (number : ℕ) (a : Argument) →
    k < n → slice_get es handle ≡ Some (FunctionArgument number) → slice_get arguments number ≡ Some a →
    rest_of_walk arguments member es (n - k) handle found ≡ option_or (builtin_of a.binding) found
walk_at_argument arguments member es n k handle found number a below is_there is_argument =
    at_expression arguments member es n k handle found (FunctionArgument number) below is_there ∙
    ap (λ o. option_and_then (named_by found) (option_map (λ argument. argument.binding ∷ []) o)) is_argument ∙
    ap (λ o. option_or o found) (option_or-none (builtin_of a.binding))

-- no argument, no way
pub walk_without_argument : (arguments : List Argument) (member : ℕ → ℕ → Option (Option Binding))
    (es : List Expression) (n k handle : ℕ) (found : Option BuiltIn) (number : ℕ) →
    k < n → slice_get es handle ≡ Some (FunctionArgument number) → slice_get arguments number ≡ None →
    rest_of_walk arguments member es (n - k) handle found ≡ None
walk_without_argument arguments member es n k handle found number below is_there is_argument =
    at_expression arguments member es n k handle found (FunctionArgument number) below is_there ∙
    ap (λ o. option_and_then (named_by found) (option_map (λ argument. argument.binding ∷ []) o)) is_argument

-- past the expressions there is nothing
pub walk_past_the_end : (arguments : List Argument) (member : ℕ → ℕ → Option (Option Binding))
    (es : List Expression) (steps handle : ℕ) (found : Option BuiltIn) →
    length es ≤ handle → rest_of_walk arguments member es steps handle found ≡ None
unfolding rest_of_walk
walk_past_the_end arguments member es zero handle found past = refl
walk_past_the_end arguments member es (suc steps) handle found past =
    ap (λ o. option_and_then (named_by found)
    (option_and_then (way_by arguments member (way_of arguments member es steps)) o))
    (slice_get_past es handle past)

-- any other expression has no way
pub walk_at_another : (arguments : List Argument) (member : ℕ → ℕ → Option (Option Binding))
    (es : List Expression) (n k handle : ℕ) (found : Option BuiltIn) (e : Expression) →
    k < n → slice_get es handle ≡ Some e → way_by arguments member (way_of arguments member es (n - (k + 1))) e ≡ None →
    rest_of_walk arguments member es (n - k) handle found ≡ None
walk_at_another arguments member es n k handle found e below is_there is_no_way =
    at_expression arguments member es n k handle found e below is_there
    ∙ ap (λ o. option_and_then (named_by found) o) is_no_way

pub no_way_of_others : (arguments : List Argument) (member : ℕ → ℕ → Option (Option Binding))
    (before : ℕ → Option (List (Option Binding))) (e : Expression) →
    ((base index : ℕ) → e ≡ AccessIndex base index → ⊥) → ((number : ℕ) → e ≡ FunctionArgument number → ⊥) →
    way_by arguments member before e ≡ None
no_way_of_others arguments member before (AccessIndex base index) not_member not_argument =
    absurd (not_member base index refl)
no_way_of_others arguments member before (FunctionArgument number) not_member not_argument =
    absurd (not_argument number refl)
no_way_of_others arguments member before _ not_member not_argument = refl

-- What is bound and what is in scope at each point of a function, and the check of both.
--
-- Throughout, f is a function with its names, h a handle, s are the handles in scope (s1 those
-- after a part), k is how many names have been given, e an expression, st a statement, b a body, i
-- an index, x a name or a handle, u tells whether operands are usable.
use Rattle.std.specs.Prelude.{ℕ, zero, suc, Bool, true, false, cond, not, nat_lt, List, [], ◌∷◌}
use Rattle.std.specs.Prelude.{take, length, Option, Some, None, ◌&&◌, ◌||◌}
use Rattle.shader_runs.specs.Value.{Bytes}
use Rattle.shader_runs.specs.World.{Vocabulary, update}
use Rattle.shader_runs.specs.Program.{Expression, Constant, Argument, Local, Global, is_pure}
use Rattle.shader_runs.specs.Program.{is_emittable, Statement}
use Rattle.shader_runs.specs.Program.{Emit, Store, Block, If, Switch, Loop, Return, Act, Statements}
use Rattle.shader_runs.specs.Program.{end, then, Cases, no_case, case, Function, argument_count}
use Rattle.shader_runs.specs.Program.{local_count, expression_of, operands_of, is_named, binds}
use Rattle.shader_runs.specs.Program.{from, holds_continue, Jumps}

-- a handle at a point: not emitted here; emitted where an operand was out of scope; a constant tree
-- that wasn't emitted here; written where it is used; or bound under a name
pub data Availability : Type 0 where
  Absent : Availability
  Barred : Availability
  Everywhere : Availability
  Inline : Availability
  Bound : Bytes → Availability

-- the availability of each handle
abbrev pub Handles : Type 0
Handles = ℕ → Availability

-- the names of a module's items, and the words that its text may use beside them
pub record ModuleNames : Type 0 where
  pub constant : ℕ → Bytes
  pub global : ℕ → Bytes
  pub function : ℕ → Bytes
  pub vocabulary : Vocabulary

-- the names that a function's text uses. given: the front ends' names, in text order; numbered:
-- those by the handle; earlier: how many functions stand before this one
pub record Names : Type 0 where
  pub outer : ModuleNames
  pub argument : ℕ → Bytes
  pub local_ : ℕ → Bytes
  pub named : ℕ → Bytes
  pub numbered : ℕ → Bytes
  pub earlier : ℕ

-- a function with its names
pub record Naming : Type 0 where
  pub function : Function
  pub names : Names

-- an emitted handle's name, after k given ones
abbrev pub bound_name : Naming → ℕ → ℕ → Bytes
bound_name f k h = cond (is_named f.function h) (f.names.named k) (f.names.numbered h)

-- it may be written
abbrev pub is_present : Availability → Bool
is_present Absent = false
is_present Barred = false
is_present Everywhere = true
is_present Inline = true
is_present (Bound x) = true

-- an Emit may give it: no Emit in this block or an enclosing one did
abbrev pub is_new : Availability → Bool
is_new Absent = true
is_new Barred = false
is_new Everywhere = true
is_new Inline = false
is_new (Bound x) = false

-- leaves are in scope everywhere, and other expressions by their availability
abbrev pub usable_as : Function → Option Expression → Availability → Bool
usable_as f (Some (Constant e)) s = true
usable_as f (Some (Argument i)) s = nat_lt i (argument_count f)
usable_as f (Some (Local i)) s = nat_lt i (local_count f)
usable_as f (Some (Global held i)) s = true
usable_as f None s = false
usable_as f _ s = is_present s

-- a handle in scope
abbrev pub usable : Function → Handles → ℕ → Bool
usable f s h = usable_as f (expression_of f h) (s h)

-- all these handles are in scope
abbrev pub usable_all : Function → Handles → List ℕ → Bool
usable_all f s [] = true
usable_all f s (x ∷ xs) = usable f s x && usable_all f s xs

-- a handle is in scope, if one is wanted
abbrev pub usable_if : Function → Handles → Option ℕ → Bool
usable_if f s None = true
usable_if f s (Some h) = usable f s h

-- the test holds of all these handles
abbrev pub all_constant : (ℕ → Bool) → List ℕ → Bool
all_constant test [] = true
all_constant test (x ∷ xs) = test x && all_constant test xs

-- a constant by itself
abbrev pub is_constant_leaf : Option Expression → Bool
is_constant_leaf (Some (Constant e)) = true
is_constant_leaf _ = false

-- a constant, or an operator over constant trees
abbrev pub constant_test : (ℕ → Bool) → Option Expression → Bool
constant_test test e = is_constant_leaf e || (is_pure e && all_constant test (operands_of e))

-- the test up to a bound on the handles
abbrev pub is_constant_below : Function → ℕ → ℕ → Bool
is_constant_below f zero h = false
is_constant_below f (suc n) h = constant_test (is_constant_below f n) (expression_of f h)

-- a constant tree at the start
abbrev pub start_availability : Bool → Availability
start_availability true = Everywhere
start_availability false = Absent

-- constant trees are in scope from the start
abbrev pub start_below : Function → ℕ → Handles
start_below f n h = start_availability (is_pure (expression_of f h) && is_constant_below f n h)

-- the handles in scope at the start of a function
abbrev pub at_start : Function → Handles
at_start f = start_below f (length f.expressions)

-- an operator that no name binds is written where it is used, if its operands are in scope here
abbrev pub availability_without_name : Bool → Availability → Availability
availability_without_name true s = Inline
availability_without_name false Absent = Barred
availability_without_name false s = s

-- a read that isn't bound is never in scope
abbrev pub with_emitted_handle : (is_bound is_operator has_operands : Bool) → Bytes → Handles → ℕ →
    Handles
with_emitted_handle true o u x s h = update s h (Bound x)
with_emitted_handle false true u x s h = update s h (availability_without_name u (s h))
with_emitted_handle false false u x s h = s

-- the handles in scope after one is emitted, k names having been given
abbrev pub after_one : Naming → ℕ → ℕ → Handles → Handles
after_one f k h s =
    let e = expression_of f.function h in
    with_emitted_handle (binds f.function h) (is_pure e) (usable_all f.function s (operands_of e))
    (bound_name f k h) s h

-- how many names are given after a handle
abbrev pub named_after : Function → ℕ → ℕ → ℕ
named_after f h k = cond (is_named f h) (suc k) k

-- how many names are given after these handles
abbrev pub named_after_all : Function → List ℕ → ℕ → ℕ
named_after_all f [] k = k
named_after_all f (h ∷ hs) k = named_after_all f hs (named_after f h k)

-- the handles in scope after an Emit
abbrev pub after_emit : Naming → ℕ → List ℕ → Handles → Handles
after_emit f k [] s = s
after_emit f k (h ∷ hs) s = after_emit f (named_after f.function h k) hs (after_one f k h s)

-- how many names are given after a statement
abbrev mutual
  pub named_by : Function → Statement → ℕ → ℕ
  named_by f (Emit first count) k = named_after_all f (from first count) k
  named_by f (Block b) k = named_by_all f b k
  named_by f (If c a b) k = named_by_all f b (named_by_all f a k)
  named_by f (Switch h cases) k = named_by_cases f cases k
  named_by f (Loop b d e) k = named_by_all f d (named_by_all f b k)
  named_by f _ k = k

  pub named_by_all : Function → Statements → ℕ → ℕ
  named_by_all f end k = k
  named_by_all f (then s ss) k = named_by_all f ss (named_by f s k)

  pub named_by_cases : Function → Cases → ℕ → ℕ
  named_by_cases f no_case k = k
  named_by_cases f (case l b falls cs) k = named_by_cases f cs (named_by_all f b k)

-- a result is bound to its own name
abbrev pub after_result : Names → Option ℕ → Handles → Handles
after_result n None s = s
after_result n (Some h) s = update s h (Bound (n.numbered h))

-- the handles in scope after a statement
abbrev pub after : Naming → ℕ → Statement → Handles → Handles
after f k (Emit first count) s = after_emit f k (from first count) s
after f k (Act a xs r) s = after_result f.names r s
after f k _ s = s

-- a constant tree that was emitted meanwhile isn't emitted again, and is written where it is used
abbrev pub forgotten_one : Availability → Availability → Availability
forgotten_one Everywhere now = cond (is_new now) Everywhere Inline
forgotten_one Absent now = Absent
forgotten_one Barred now = Barred
forgotten_one Inline now = Inline
forgotten_one (Bound x) now = Bound x

-- the same for all handles
abbrev pub forgotten_handles : Handles → Handles → Handles
forgotten_handles s now h = forgotten_one (s h) (now h)

-- names are forgotten after a statement that holds a `continue`
abbrev pub forgotten_if : Bool → Handles → Handles → Handles
forgotten_if true s now = forgotten_handles s now
forgotten_if false s now = now

-- those that a list leaves to its loop's `continuing`:
-- no name from the first statement with a `continue` on
abbrev pub after_all : Naming → ℕ → Statements → Handles → Handles
after_all f k end s = s
after_all f k (then st ss) s =
    forgotten_if (holds_continue st) s (after_all f (named_by f.function st k) ss (after f k st s))

-- a handle may be emitted, and what a name binds has its operands in scope
abbrev pub may_emit : Function → ℕ → Handles → Bool
may_emit f h s =
    is_new (s h) && (is_emittable (expression_of f h) && (not (binds f h) ||
    usable_all f s (operands_of (expression_of f h))))

-- an Emit of these handles
abbrev pub may_emit_all : Naming → ℕ → List ℕ → Handles → Bool
may_emit_all f k [] s = true
may_emit_all f k (h ∷ hs) s =
    may_emit f.function h s && may_emit_all f (named_after f.function h k) hs (after_one f k h s)

-- a result is given where its handle isn't in scope
abbrev pub may_give : Option ℕ → Handles → Bool
may_give None s = true
may_give (Some h) s = is_new (s h)

-- every operand is in scope where it is used, and no Emit is refused
abbrev mutual
  pub fits : Naming → ℕ → Statement → Handles → Bool
  fits f k (Emit first count) s = may_emit_all f k (from first count) s
  fits f k (Store p v) s = usable f.function s p && usable f.function s v
  fits f k (Block b) s = fits_all f k b s
  fits f k (If c a b) s =
      usable f.function s c && (fits_all f k a s && fits_all f (named_by_all f.function a k) b s)
  fits f k (Switch h cases) s = usable f.function s h && fits_cases f k cases s
  fits f k (Loop b d e) s =
      let s1 = after_all f k b s in
      let k1 = named_by_all f.function b k in
      fits_all f k b s && (fits_all f k1 d s1 && usable_if f.function (after_all f k1 d s1) e)
  fits f k (Jumps (Return v)) s = usable_if f.function s v
  fits f k (Act a xs r) s = usable_all f.function s xs && may_give r s
  fits f k _ s = true

  pub fits_all : Naming → ℕ → Statements → Handles → Bool
  fits_all f k end s = true
  fits_all f k (then st ss) s =
      fits f k st s && fits_all f (named_by f.function st k) ss (after f k st s)

  pub fits_cases : Naming → ℕ → Cases → Handles → Bool
  fits_cases f k no_case s = true
  fits_cases f k (case l b falls cs) s =
      fits_all f k b s && fits_cases f (named_by_all f.function b k) cs s

-- the function with its first locals alone, as many as these: what is in scope in front of the
-- declaration of the next one
abbrev pub before_local : Function → ℕ → Function
before_local f i = record f { first_values = take i f.first_values }

-- the initialisers of locals, from this one on, are in
-- scope at the start, where the locals before them are
abbrev pub first_values_fit : Function → ℕ → List (Option ℕ) → Bool
first_values_fit f i [] = true
first_values_fit f i (o ∷ os) =
    usable_if (before_local f i) (at_start f) o && first_values_fit f (suc i) os

-- the check of a function: false is the refusal 'operand out of scope'
abbrev pub fits_function : Naming → Bool
fits_function f =
    first_values_fit f.function 0 f.function.first_values &&
    fits_all f 0 f.function.body (at_start f.function)

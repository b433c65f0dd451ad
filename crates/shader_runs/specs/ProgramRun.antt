-- A module's run by handles: an emitted expression is evaluated once, and its value kept.
--
-- Throughout, c is a call, n the bound on turns, t are the events so far, h is a handle, e its
-- expression or a constant tree, m the meaning, w the world or a word, v a value (vs are several),
-- o one that may be missing, p a place or the handle of a pointer, k a type, z an integer, i an
-- index, j a short circuit, x a selector, a case value, a handle or why a run stops, g the number
-- of a function and r a result.
use Rattle.std.specs.Prelude.{ℕ, zero, suc, ℤ, Bool, true, false, cond, nat_eq, List, [], ◌∷◌, ◌++◌}
use Rattle.std.specs.Prelude.{option_map, option_and_then, length, Option, Some, None, ◌||◌}
use Rattle.std.specs.Prelude.{slice_get, codes}
use Rattle.shader_runs.specs.Value.{Bytes, same_integer, PartTypes, Place, AtOrigin, GlobalOrigin}
use Rattle.shader_runs.specs.Value.{truth_in, integer_in, place_in, element_place, place_to}
use Rattle.shader_runs.specs.Value.{LocalOrigin}
use Rattle.shader_runs.specs.Value.{ValueType, has_type, Selector, MemberNamed, Value, Truth}
use Rattle.shader_runs.specs.Value.{Pointer, Word, Spelled, PartWord, IndexWord, ShortCircuit}
use Rattle.shader_runs.specs.Value.{short_circuit_word, is_decided}
use Rattle.shader_runs.specs.World.{Event, Entry, Ask, Read, Write, entries, World}
use Rattle.shader_runs.specs.World.{Meaning, GlobalValue, Stored, InHandleSpace, Environment}
use Rattle.shader_runs.specs.World.{update}
use Rattle.shader_runs.specs.Outcome.{Stuck, Mistyped, Outcome, Done, Broke}
use Rattle.shader_runs.specs.Outcome.{or_stuck, Returned, Stopped, ReachedOrHalted, Gives, Halts}
use Rattle.shader_runs.specs.Outcome.{answer}
use Rattle.shader_runs.specs.Outcome.{Next, and_then, turn, turns, after_switch, branch_by}
use Rattle.shader_runs.specs.Outcome.{with_integer, Unreturned, jump_outcome}
use Rattle.shader_runs.specs.Program.{ConstantTree, Fixed, NamedConstant, Composed, Indexing}
use Rattle.shader_runs.specs.Program.{Picking, Joining}
use Rattle.shader_runs.specs.Program.{ConstantTrees, no_constant, constant, Expression, Constant}
use Rattle.shader_runs.specs.Program.{Argument, Local, Global, Load, Operator, Access, AccessIndex}
use Rattle.shader_runs.specs.Program.{Logical, Swizzle, Request, Action, Asked, Called, BarrierBits}
use Rattle.shader_runs.specs.Program.{CaseValue, Numbered, Default, Statement, Emit, Store, Block}
use Rattle.shader_runs.specs.Program.{If}
use Rattle.shader_runs.specs.Program.{Switch, Loop, Barrier, Act}
use Rattle.shader_runs.specs.Program.{Statements, end, then, Cases, no_case, case, Function}
use Rattle.shader_runs.specs.Program.{argument_count, local_pointer, expression_of, handle_type}
use Rattle.shader_runs.specs.Program.{operands_of, is_counted, from, Jumps}
use Rattle.std.specs.Option.{option_map_or}

-- one call of a function: callees are the functions before it and calls what they do, frame is the
-- number of entries before it
pub record Call : Type 0 where
  pub function : Function
  pub callees : List Function
  pub environment : Environment
  pub world : World
  pub meaning : Meaning
  pub arguments : List Value
  pub frame : ℕ
  pub calls : ℕ → List Value → List Event → ReachedOrHalted (Option Value)

-- the value kept for each handle
abbrev pub EmittedValues : Type 0
EmittedValues = ℕ → Option Value

-- one more value, if all are there
abbrev pub also : Option Value → Option (List Value) → Option (List Value)
also None vs = None
also (Some v) None = None
also (Some v) (Some vs) = Some (v ∷ vs)

-- an operator's value, if all its operands have theirs
abbrev pub operator_value : Meaning → Word → Option (List Value) → Option Value
operator_value m w vs = option_map (m w) vs

-- whether the left side's value decides
abbrev pub decides : ShortCircuit → Value → Bool
decides j v = option_map_or (is_decided j) (truth_in v) false

-- where it doesn't: the right side's truth value, and what the meaning says of other values
abbrev pub undecided_value : Meaning → ShortCircuit → Value → Value → Value
undecided_value m j (Truth a) (Truth b) = Truth b
undecided_value m j l r = m (Spelled (short_circuit_word j)) (l ∷ r ∷ [])

-- an index into a constant, or a part of one: a pointer has neither there
abbrev pub constant_part_by : Meaning → Word → Option Place → List Value → Option Value
constant_part_by m word None vs = Some (m word vs)
constant_part_by m word (Some p) vs = None

-- an index into a constant
abbrev pub constant_index : Meaning → Value → Value → Option Value
constant_index m v i = constant_part_by m IndexWord (place_in v) (v ∷ i ∷ [])

-- a part of a constant
abbrev pub constant_part : Meaning → Selector → Value → Option Value
constant_part m x v = constant_part_by m (PartWord x) (place_in v) (v ∷ [])

-- `&&` and `||` of constants want their right side only where it decides
abbrev pub constant_logic : Meaning → ShortCircuit → Option Value → Value → Option Value
constant_logic m j r l = cond (decides j l) (Some l) (option_map (undecided_value m j l) r)

abbrev mutual
  -- the value of a tree over constants alone, by what is known of the named ones
  pub tree_value : (ℕ → Option Value) → Meaning → ConstantTree → Option Value
  tree_value known m (Fixed v) = Some v
  tree_value known m (NamedConstant i) = known i
  tree_value known m (Composed w ty es) = operator_value m (Spelled w) (tree_values known m es)
  tree_value known m (Indexing ty b i) =
      option_and_then (λ v. option_and_then (constant_index m v) (tree_value known m i))
      (tree_value known m b)
  tree_value known m (Picking x ty b) = option_and_then (constant_part m x) (tree_value known m b)
  tree_value known m (Joining j ty l r) =
      option_and_then (constant_logic m j (tree_value known m r)) (tree_value known m l)

  pub tree_values : (ℕ → Option Value) → Meaning → ConstantTrees → Option (List Value)
  tree_values known m no_constant = Some []
  tree_values known m (constant e es) = also (tree_value known m e) (tree_values known m es)

-- its value where all are known
abbrev pub constant_value : Environment → Meaning → ConstantTree → Option Value
constant_value env m e = tree_value (slice_get env.constants) m e

-- the values of several
abbrev pub constant_values : Environment → Meaning → ConstantTrees → Option (List Value)
constant_values env m es = tree_values (slice_get env.constants) m es

-- what a module-level variable's name gives: a pointer to it, or the value itself
abbrev pub global_value : ℕ → Option GlobalValue → Option Value
global_value i None = None
global_value i (Some (Stored pointer)) = Some (Pointer (AtOrigin (GlobalOrigin pointer i)))
global_value i (Some (InHandleSpace o)) = o

-- what a use of a handle takes
abbrev pub used_value_as : Call → Option Expression → Option Value → Option Value
used_value_as c (Some (Constant e)) kept = constant_value c.environment c.meaning e
used_value_as c (Some (Argument i)) kept = slice_get c.arguments i
used_value_as c (Some (Local i)) kept =
    Some (Pointer (AtOrigin (LocalOrigin (local_pointer c.function i) c.frame i)))
used_value_as c (Some (Global held i)) kept = global_value i (slice_get c.environment.globals i)
used_value_as c None kept = None
used_value_as c _ kept = kept

-- what a use of this handle takes
abbrev pub used_value : Call → EmittedValues → ℕ → Option Value
used_value c kept h = used_value_as c (expression_of c.function h) (kept h)

-- what uses of these handles take
abbrev pub used_values : Call → EmittedValues → List ℕ → Option (List Value)
used_values c kept [] = Some []
used_values c kept (x ∷ xs) = also (used_value c kept x) (used_values c kept xs)

-- of one operand
abbrev pub on_one : (Value → Option Value) → List Value → Option Value
on_one f [] = None
on_one f (x ∷ []) = f x
on_one f (x ∷ y ∷ vs) = None

-- of two operands
abbrev pub on_two : (Value → Value → Option Value) → List Value → Option Value
on_two f [] = None
on_two f (x ∷ []) = None
on_two f (x ∷ y ∷ []) = f x y
on_two f (x ∷ y ∷ z ∷ vs) = None

-- an index through a pointer makes a pointer to the part, if the place
-- has such parts; into another value it gives what the meaning says
abbrev pub index_value_by : PartTypes → Meaning → Option Place → Value → Value → Option Value
index_value_by parts m (Some p) v i =
    option_map Pointer (option_and_then (element_place parts p) (integer_in i))
index_value_by parts m None v i = Some (m IndexWord (v ∷ i ∷ []))

-- an index into a value
abbrev pub index_value_of : PartTypes → Meaning → Value → Value → Option Value
index_value_of parts m v i = index_value_by parts m (place_in v) v i

-- a member or an element through a pointer makes a pointer to the part,
-- if the place has it; of another value it is what the meaning says
abbrev pub part_value_by : PartTypes → Meaning → Selector → Option Place → Value → Option Value
part_value_by parts m x (Some p) v = option_map Pointer (place_to parts p x)
part_value_by parts m x None v = Some (m (PartWord x) (v ∷ []))

-- a part of a value
abbrev pub part_value : PartTypes → Meaning → Selector → Value → Option Value
part_value parts m x v = part_value_by parts m x (place_in v) v

-- the components of a vector by their letters
abbrev pub swizzle_value : Meaning → Bytes → Value → Option Value
swizzle_value m letters v = Some (m (PartWord (MemberNamed letters)) (v ∷ []))

-- `&&` and `||`
abbrev pub logical_value : Meaning → ShortCircuit → Value → Value → Option Value
logical_value m j l r = Some (cond (decides j l) l (undecided_value m j l r))

-- an operator's value at its operands' values
abbrev pub combined_value : PartTypes → Meaning → Option Expression → List Value → Option Value
combined_value parts m (Some (Operator w xs)) vs = Some (m (Spelled w) vs)
combined_value parts m (Some (Access b i)) vs = on_two (index_value_of parts m) vs
combined_value parts m (Some (AccessIndex x b)) vs = on_one (part_value parts m x) vs
combined_value parts m (Some (Logical j l r)) vs = on_two (logical_value m j) vs
combined_value parts m (Some (Swizzle letters v)) vs = on_one (swizzle_value m letters) vs
combined_value parts m _ vs = None

-- an operator without all its operands has no value
abbrev pub gathered_value :
    PartTypes → Meaning → Option Expression → Option (List Value) → Option Value
gathered_value parts m e vs = option_and_then (combined_value parts m e) vs

-- an expression's value now, over the kept values
abbrev pub computed_value : Call → EmittedValues → Option Expression → Option Value
computed_value c kept e =
    gathered_value c.environment.parts c.meaning e (used_values c kept (operands_of e))

-- an answer of another type than the module's
abbrev pub if_typed : {S : Type 0} → Bool → List Event → Outcome S → Outcome S
if_typed true t o = o
if_typed false t o = Stopped Mistyped t

-- an answer is kept, if it has its type
abbrev pub store_typed : PartTypes → ValueType → ℕ → Value → Next EmittedValues
store_typed parts k h v kept t = if_typed (has_type parts k v) t (Done (update kept h (Some v)) t)

-- a handle without its pointer's value gets none
abbrev pub after_load : PartTypes → ValueType → World → ℕ → Option Value → Next EmittedValues
after_load parts k w h None kept t = Done (update kept h None) t
after_load parts k w h (Some v) kept t =
    or_stuck (place_in v) t (λ p. store_typed parts k h (w t (Read p)) kept (Read p ∷ t))

-- the operands' values, and those of the constants after them
abbrev pub joined_values : Option (List Value) → Option (List Value) → Option (List Value)
joined_values None us = None
joined_values (Some vs) None = None
joined_values (Some vs) (Some us) = Some (vs ++ us)

-- a handle without its operands' values gets none
abbrev pub after_request :
    PartTypes → ValueType → World → ℕ → Bytes → Option (List Value) → Next EmittedValues
after_request parts k w h word None kept t = Done (update kept h None) t
after_request parts k w h word (Some vs) kept t =
    store_typed parts k h (w t (Ask word vs)) kept (Ask word vs ∷ t)

-- what isn't written is no event
abbrev pub if_counted : Bool → Next EmittedValues → Next EmittedValues
if_counted true next kept t = next kept t
if_counted false next kept t = Done kept t

-- an emitted expression: an event is asked for, an operator computed
abbrev pub emit_as : Call → ℕ → Option Expression → Next EmittedValues
emit_as c h (Some (Load p)) kept t =
    let parts = c.environment.parts in
    let loads = after_load parts (handle_type c.function h) c.world h (used_value c kept p) in
    if_counted (is_counted c.function h) loads kept t
emit_as c h (Some (Request w xs es)) kept t =
    let parts = c.environment.parts in
    let constants = constant_values c.environment c.meaning es in
    let values = joined_values (used_values c kept xs) constants in
    let asks = after_request parts (handle_type c.function h) c.world h w values in
    if_counted (is_counted c.function h) asks kept t
emit_as c h (Some (Operator w xs)) kept t =
    Done (update kept h (computed_value c kept (Some (Operator w xs)))) t
emit_as c h (Some (Access b i)) kept t =
    Done (update kept h (computed_value c kept (Some (Access b i)))) t
emit_as c h (Some (AccessIndex x b)) kept t =
    Done (update kept h (computed_value c kept (Some (AccessIndex x b)))) t
emit_as c h (Some (Logical j l r)) kept t =
    Done (update kept h (computed_value c kept (Some (Logical j l r)))) t
emit_as c h (Some (Swizzle w v)) kept t =
    Done (update kept h (computed_value c kept (Some (Swizzle w v)))) t
emit_as c h _ kept t = Done kept t

-- handles are emitted in order
abbrev pub emit : Call → List ℕ → Next EmittedValues
emit c [] kept t = Done kept t
emit c (h ∷ hs) kept t = and_then (emit_as c h (expression_of c.function h) kept t) (emit c hs)

-- goes on with a place, or is stuck
abbrev pub with_pointer : {S : Type 0} → Option Value → List Event → (Place → Outcome S) → Outcome S
with_pointer o t go = or_stuck (option_and_then place_in o) t go

-- after `continuing`: Broke where the loop is left
abbrev pub leave : Call → Option ℕ → Next EmittedValues
leave c None kept t = Done kept t
leave c (Some h) kept t =
    or_stuck (used_value c kept h) t (λ v. branch_by v t (Broke kept t) (Done kept t))

-- what is returned
abbrev pub return_outcome : Call → Option ℕ → Next EmittedValues
return_outcome c None kept t = Returned None t
return_outcome c (Some h) kept t = or_stuck (used_value c kept h) t (λ v. Returned (Some v) t)

-- what an action does with its operands' values
abbrev pub action_answer : Call → Action → List Value → List Event → ReachedOrHalted (Option Value)
action_answer c (Asked w) vs t = Gives (Some (c.world t (Ask w vs))) (Ask w vs ∷ t)
action_answer c (Called g) vs t = c.calls g vs t

-- an action's result is kept where one is wanted
abbrev pub with_result :
    PartTypes → Function → Action → Option ℕ → EmittedValues → ReachedOrHalted (Option Value) →
    Outcome EmittedValues
with_result parts f a None kept (Gives v t) = Done kept t
with_result parts f a None kept (Halts x t) = Stopped x t
with_result parts f a (Some h) kept (Gives None t) = Stopped Unreturned t
with_result parts f (Asked w) (Some h) kept (Gives (Some v) t) =
    store_typed parts (handle_type f h) h v kept t
with_result parts f (Called g) (Some h) kept (Gives (Some v) t) = Done (update kept h (Some v)) t
with_result parts f a (Some h) kept (Halts x t) = Stopped x t

-- the word of a set bit
abbrev pub word_if : Bool → Bytes → List Bytes → List Bytes
word_if true w ws = w ∷ ws
word_if false w ws = ws

-- a barrier's words, one for each set bit
abbrev pub barrier_words : BarrierBits → List Bytes
barrier_words bits =
    word_if bits.storage (codes "storageBarrier")
    (word_if bits.work_group (codes "workgroupBarrier")
    (word_if bits.sub_group (codes "subgroupBarrier")
    (word_if bits.texture (codes "textureBarrier") [])))

-- one event for each word
abbrev pub ask_each : List Bytes → Next EmittedValues
ask_each [] kept t = Done kept t
ask_each (w ∷ ws) kept t = ask_each ws kept (Ask w [] ∷ t)

-- the same case
abbrev pub same_case_value : CaseValue → CaseValue → Bool
same_case_value (Numbered y) (Numbered z) = same_integer y z
same_case_value Default Default = true
same_case_value _ _ = false

-- some case has this value
abbrev pub has_case_value : CaseValue → Cases → Bool
has_case_value x no_case = false
has_case_value x (case l b falls cs) = same_case_value x l || has_case_value x cs

-- the case value that an integer goes to: its own, or else the default
abbrev pub case_value_if : Bool → ℤ → CaseValue
case_value_if true z = Numbered z
case_value_if false z = Default

abbrev mutual
  -- each loop makes at most n turns
  pub run : Call → ℕ → Statement → Next EmittedValues
  run c n (Emit first count) kept t = emit c (from first count) kept t
  run c n (Store p v) kept t =
      with_pointer (used_value c kept p) t
      (λ place. or_stuck (used_value c kept v) t (λ value. Done kept (Write place value ∷ t)))
  run c n (Block b) kept t = run_all c n b kept t
  run c n (If h a b) kept t =
      or_stuck (used_value c kept h) t
      (λ v. branch_by v t (run_all c n a kept t) (run_all c n b kept t))
  run c n (Switch h cases) kept t =
      or_stuck (used_value c kept h) t (λ v. with_integer v t (λ z.
      after_switch
      (run_cases c n cases (case_value_if (has_case_value (Numbered z) cases) z) kept t)))
  run c n (Loop b d e) kept t = turns n (turn (run_all c n b) (run_all c n d) (leave c e)) kept t
  run c n (Jumps j) kept t = jump_outcome (return_outcome c) j kept t
  run c n (Barrier bits) kept t = ask_each (barrier_words bits) kept t
  run c n (Act a xs r) kept t =
      or_stuck (used_values c kept xs) t
      (λ vs. with_result c.environment.parts c.function a r kept (action_answer c a vs t))

  pub run_all : Call → ℕ → Statements → Next EmittedValues
  run_all c n end kept t = Done kept t
  run_all c n (then s ss) kept t = and_then (run c n s kept t) (run_all c n ss)

  -- from the case with this value on
  pub run_cases : Call → ℕ → Cases → CaseValue → Next EmittedValues
  run_cases c n no_case x kept t = Done kept t
  run_cases c n (case l b falls cs) x kept t =
      let falling = λ (kept1 : EmittedValues) (t1 : List Event).
      cond falls (run_on c n cs kept1 t1) (Done kept1 t1) in
      let own = and_then (run_all c n b kept t) falling in
      cond (same_case_value x l) own (run_cases c n cs x kept t)

  -- on from a case that fell through
  pub run_on : Call → ℕ → Cases → Next EmittedValues
  run_on c n no_case kept t = Done kept t
  run_on c n (case l b falls cs) kept t =
      and_then (run_all c n b kept t)
      (λ kept1 t1. cond falls (run_on c n cs kept1 t1) (Done kept1 t1))

-- all values, if they are there
abbrev pub all_of : (ℕ → Option Value) → List ℕ → Option (List Value)
all_of value [] = Some []
all_of value (x ∷ xs) = also (value x) (all_of value xs)

-- a constant's own value, or what its operands give
abbrev pub or_constant : Environment → Meaning → Option Expression → Option Value → Option Value
or_constant env m (Some (Constant e)) o = constant_value env m e
or_constant env m _ o = o

-- the value of a constant tree, over its operands' values
abbrev pub constant_as :
    Environment → Meaning → (ℕ → Option Value) → Option Expression → Option Value
constant_as env m value e =
    or_constant env m e (gathered_value env.parts m e (all_of value (operands_of e)))

-- the values of constant trees up to a bound on their handles
abbrev pub constant_below : Function → Environment → Meaning → ℕ → EmittedValues
constant_below f env m zero h = None
constant_below f env m (suc n) h = constant_as env m (constant_below f env m n) (expression_of f h)

-- the values of constant trees are there from the start
abbrev pub constants_at_start : Function → Environment → Meaning → EmittedValues
constants_at_start f env m = constant_below f env m (length f.expressions)

-- one more first value
abbrev pub with_first :
    Option (Option Value) → Option (List (Option Value)) → Option (List (Option Value))
with_first None firsts = None
with_first (Some v) None = None
with_first (Some v) (Some firsts) = Some (v ∷ firsts)

-- a local has no first value, or that of its initialiser
abbrev pub first_used : Call → EmittedValues → Option ℕ → Option (Option Value)
first_used c kept None = Some None
first_used c kept (Some h) = option_map Some (used_value c kept h)

-- the first values of all locals
abbrev pub first_used_all : Call → EmittedValues → List (Option ℕ) → Option (List (Option Value))
first_used_all c kept [] = Some []
first_used_all c kept (o ∷ os) = with_first (first_used c kept o) (first_used_all c kept os)

-- a body's run after the entry, with the first values of the locals
abbrev pub run_from_entry : ℕ → List Value → Option (List (Option Value)) → List Event →
    (List Event → ReachedOrHalted (Option Value)) → ReachedOrHalted (Option Value)
run_from_entry g vs None t body = Halts Stuck t
run_from_entry g vs (Some firsts) t body = body (Entry g vs firsts ∷ t)

-- a body, from the first values of its locals on
abbrev pub run_body : Call → ℕ → ℕ → List Value → List Event → ReachedOrHalted (Option Value)
run_body c n g vs t =
    let kept = constants_at_start c.function c.environment c.meaning in
    run_from_entry g vs (first_used_all c kept c.function.first_values) t
    (λ t1. answer (run_all c n c.function.body kept t1))

-- a call with another number of arguments is stuck
abbrev pub run_if_arguments_fit : Bool → ReachedOrHalted (Option Value) → List Event →
    ReachedOrHalted (Option Value)
run_if_arguments_fit true a t = a
run_if_arguments_fit false a t = Halts Stuck t

-- a call of one of these functions, the last one
-- first: its number is that of the functions that it may call
abbrev pub run_call : Environment → World → Meaning → ℕ → List Function → ℕ → List Value →
    List Event → ReachedOrHalted (Option Value)
run_call env w m n [] g vs t = Halts Stuck t
run_call env w m n (f ∷ fs) g vs t =
    let c : Call = record {
      function = f;
      callees = fs;
      environment = env;
      world = w;
      meaning = m;
      arguments = vs;
      frame = entries t;
      calls = run_call env w m n fs;
    } in
    let own =
    run_if_arguments_fit (nat_eq (length vs) (argument_count f))
    (run_body c n (length fs) vs t) t in
    let other = run_call env w m n fs g vs t in
    cond (nat_eq g (length fs)) own other

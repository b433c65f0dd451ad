-- The rules of scope: at which points of a function a handle may be used, and which handles a
-- statement may give. They speak of a function alone, not of names or of how the rules are checked.
--
-- Throughout, f is a function, h a handle, g are the handles that are given, e is an expression, st
-- a statement, a, b and d are bodies and i is an index.
use Rattle.std.specs.Prelude.{◌≡◌, ℕ, suc, ◌<◌, Bool, true, false, cond, not, List, [], ◌∷◌, Option}
use Rattle.std.specs.Prelude.{Some, None, ◌⊎◌, ◌↔◌, IsTrue, IsFalse}
use Rattle.shader_runs.specs.Program.{ConstantTree, Expression, Constant, Argument, Local, Global}
use Rattle.shader_runs.specs.Program.{Load, Request, Result, Statement, Emit, Store, Block, If}
use Rattle.shader_runs.specs.Program.{Switch, Loop, Return, Act, Statements, end, then, Cases}
use Rattle.shader_runs.specs.Program.{no_case, case, Function, argument_count, local_count}
use Rattle.shader_runs.specs.Program.{expression_of, operands_of, is_counted, binds, from}
use Rattle.shader_runs.specs.Program.{holds_continue}
use Rattle.shader_runs.specs.Program.{is_pure, is_emittable, Jumps}
use Rattle.shader_runs.specs.Scope.{Naming, before_local, fits_function}
use Rattle.shader_runs.specs.Premises.{AllBelow}

-- a handle that a statement gave, by an Emit or as its result
pub data IntroducedHandle : Type 0 where
  Emitted : (handle : ℕ) → IntroducedHandle
  AsResult : (handle : ℕ) → IntroducedHandle

-- the handle that was given
abbrev pub handle_of : IntroducedHandle → ℕ
handle_of (Emitted h) = h
handle_of (AsResult h) = h

-- the handle is one of those that were given
abbrev pub IsAmong : ℕ → List IntroducedHandle → Type 0
IsAmong h [] = ⊥
IsAmong h (g ∷ gs) = (handle_of g ≡ h) ⊎ IsAmong h gs

mutual
  -- a constant tree: a constant, or a pure operator over constant trees alone
  pub data IsConstantTree (f : Function) : ℕ → Type 0 where
    one_constant : {h : ℕ} (e : ConstantTree) →
        expression_of f h ≡ Some (Constant e) → IsConstantTree f h
    over_constants : {h : ℕ} → IsTrue (is_pure (expression_of f h)) →
        AreConstantTrees f (operands_of (expression_of f h)) → IsConstantTree f h

  pub data AreConstantTrees (f : Function) : List ℕ → Type 0 where
    no_tree : AreConstantTrees f []
    and_tree : {h : ℕ} {hs : List ℕ} →
        IsConstantTree f h → AreConstantTrees f hs → AreConstantTrees f (h ∷ hs)

-- what statements give: an Emit operators and reads, and
-- others their `Result`. The rest is there by itself
abbrev pub can_be_introduced : Option Expression → Bool
can_be_introduced (Some Result) = true
can_be_introduced e = is_emittable e

mutual
  -- the handle is in scope, so that it may be used, where these were given, the latest first
  pub data InScope (f : Function) : List IntroducedHandle → ℕ → Type 0 where
    -- everywhere: constant trees, and each argument, local and global
    constant_tree : {introduced : List IntroducedHandle} {h : ℕ} → IsConstantTree f h →
        InScope f introduced h
    argument : {introduced : List IntroducedHandle} {h : ℕ} (i : ℕ) →
        expression_of f h ≡ Some (Argument i) → i < argument_count f → InScope f introduced h
    local : {introduced : List IntroducedHandle} {h : ℕ} (i : ℕ) →
        expression_of f h ≡ Some (Local i) → i < local_count f → InScope f introduced h
    global : {introduced : List IntroducedHandle} {h : ℕ} (held : Bool) (i : ℕ) →
        expression_of f h ≡ Some (Global held i) → InScope f introduced h
    -- after its Emit, if a `let` binds it
    bound : {introduced : List IntroducedHandle} {h : ℕ} → IsTrue (binds f h) →
        InScope f (Emitted h ∷ introduced) h
    -- after its Emit, if it is an operator that no `let` binds and its operands were in scope
    -- there: it is written out where it is used
    written_out : {introduced : List IntroducedHandle} {h : ℕ} →
        IsFalse (binds f h) → IsTrue (is_pure (expression_of f h)) →
        EachInScope f introduced (operands_of (expression_of f h)) →
        InScope f (Emitted h ∷ introduced) h
    -- after the statement whose result it is
    result : {introduced : List IntroducedHandle} {h : ℕ} →
        IsTrue (can_be_introduced (expression_of f h)) → InScope f (AsResult h ∷ introduced) h
    -- and it stays in scope as more is given
    still : {introduced : List IntroducedHandle} {h : ℕ} (g : IntroducedHandle) →
        InScope f introduced h →
        InScope f (g ∷ introduced) h

  pub data EachInScope (f : Function) : List IntroducedHandle → List ℕ → Type 0 where
    no_handle : {introduced : List IntroducedHandle} → EachInScope f introduced []
    and_handle : {introduced : List IntroducedHandle} {h : ℕ} {hs : List ℕ} →
        InScope f introduced h → EachInScope f introduced hs → EachInScope f introduced (h ∷ hs)

-- the handle is in scope, if one is wanted
abbrev pub InScopeIf : Function → List IntroducedHandle → Option ℕ → Type 0
InScopeIf f introduced None = Unit {0}
InScopeIf f introduced (Some h) = InScope f introduced h

-- the reads that are never in scope: they count nowhere and have no name, so they are not written.
-- Their Emit is allowed, and brings nothing into scope
abbrev pub is_unwritten : Function → ℕ → Option Expression → Bool
is_unwritten f h (Some (Load p)) = not (is_counted f h)
is_unwritten f h (Some (Request w xs es)) = not (is_counted f h)
is_unwritten f h _ = false

-- what was given, one emitted handle later
abbrev pub with_one : Function → ℕ → List IntroducedHandle → List IntroducedHandle
with_one f h introduced = cond (is_unwritten f h (expression_of f h)) introduced
    (Emitted h ∷ introduced)

-- all of an Emit's handles later
abbrev pub with_emitted : Function → List ℕ → List IntroducedHandle → List IntroducedHandle
with_emitted f [] introduced = introduced
with_emitted f (h ∷ hs) introduced = with_emitted f hs (with_one f h introduced)

-- a statement later. What is given in a block inside it is given to the end of that block only
abbrev pub with_statement : Function → Statement → List IntroducedHandle → List IntroducedHandle
with_statement f (Emit first count) introduced = with_emitted f (from first count) introduced
with_statement f (Act a xs (Some h)) introduced = AsResult h ∷ introduced
with_statement f _ introduced = introduced

-- a list of statements later
abbrev pub with_statements : Function → Statements → List IntroducedHandle → List IntroducedHandle
with_statements f end introduced = introduced
with_statements f (then st ss) introduced = with_statements f ss (with_statement f st introduced)

-- the statements of a list before its first that holds
-- a `continue` of this loop: no `continue` skips them
abbrev pub statements_before_continue : Statements → Statements
statements_before_continue end = end
statements_before_continue (then st ss) =
    cond (holds_continue st) end (then st (statements_before_continue ss))

-- what was introduced before a point of a function, in its block and the enclosing
-- ones, the latest first. visible: with what a loop's body introduced before a
-- `continue` can skip it, if the point is in `continuing`. passed: with all that
-- the body's own list introduced, since the body encloses its `continuing`
pub record ScopeState : Type 0 where
  pub visible : List IntroducedHandle
  pub passed : List IntroducedHandle

-- where a function starts
abbrev pub start_state : ScopeState
start_state = record { visible = []; passed = [] }

-- after an emitted handle
abbrev pub following_one : Function → ℕ → ScopeState → ScopeState
following_one f h at = record { visible = with_one f h at.visible; passed = with_one f h at.passed }

-- after a statement
abbrev pub following : Function → Statement → ScopeState → ScopeState
following f st at =
    record { visible = with_statement f st at.visible; passed = with_statement f st at.passed }

-- where `continuing` stands after a loop's body, and `break if` after both
abbrev pub after_turn : Function → Statements → ScopeState → ScopeState
after_turn f ss at =
    record {
      visible = with_statements f (statements_before_continue ss) at.visible;
      passed = with_statements f ss at.passed;
    }

-- the handle can't be given at this point: it was given before in this block or an enclosing one.
-- For a constant tree that isn't a constant by itself all counts that was passed
pub data WasIntroduced (f : Function) (at : ScopeState) (h : ℕ) : Type 0 where
  in_sight : IsAmong h at.visible → WasIntroduced f at h
  as_a_tree : IsTrue (is_pure (expression_of f h)) → IsConstantTree f h →
      IsAmong h at.passed → WasIntroduced f at h

-- an Emit may give the handle: it is an operator or a read, it was not given before, and if a `let`
-- binds it its operands are in scope
pub record MayEmit (f : Function) (at : ScopeState) (h : ℕ) : Type 0 where
  pub kind : IsTrue (is_emittable (expression_of f h))
  pub new : ¬ WasIntroduced f at h
  pub operands : IsTrue (binds f h) → EachInScope f at.visible (operands_of (expression_of f h))

-- an Emit may give these handles, one after the other
abbrev pub MayEmitEach : Function → ScopeState → List ℕ → Type 0
MayEmitEach f at [] = Unit {0}
MayEmitEach f at (h ∷ hs) = MayEmit f at h × MayEmitEach f (following_one f h at) hs

-- a statement may give its result, if it has one: it was not given before
abbrev pub MayResult : Function → ScopeState → Option ℕ → Type 0
MayResult f at None = Unit {0}
MayResult f at (Some h) = ¬ WasIntroduced f at h

-- each operand is in scope where it is used, and each
-- Emit and each result may be given where it stands
abbrev mutual
  pub StatementHolds : Function → ScopeState → Statement → Type 0
  StatementHolds f at (Emit first count) = MayEmitEach f at (from first count)
  StatementHolds f at (Store p v) = InScope f at.visible p × InScope f at.visible v
  StatementHolds f at (Block b) = StatementsHold f at b
  StatementHolds f at (If c a b) =
      InScope f at.visible c × StatementsHold f at a × StatementsHold f at b
  StatementHolds f at (Switch h cases) = InScope f at.visible h × CasesHold f at cases
  StatementHolds f at (Loop b d e) =
      let continuing = after_turn f b at in
      let break_if = after_turn f d continuing in
      StatementsHold f at b × StatementsHold f continuing d × InScopeIf f break_if.visible e
  StatementHolds f at (Jumps (Return v)) = InScopeIf f at.visible v
  StatementHolds f at (Act a xs r) = EachInScope f at.visible xs × MayResult f at r
  StatementHolds f at _ = Unit {0}

  pub StatementsHold : Function → ScopeState → Statements → Type 0
  StatementsHold f at end = Unit {0}
  StatementsHold f at (then st ss) =
      StatementHolds f at st × StatementsHold f (following f st at) ss

  pub CasesHold : Function → ScopeState → Cases → Type 0
  CasesHold f at no_case = Unit {0}
  CasesHold f at (case l b falls cs) = StatementsHold f at b × CasesHold f at cs

-- the first values of locals, from the i-th on, are used where
-- the function starts: each may name earlier locals only
abbrev pub FirstValuesHold : Function → ℕ → List (Option ℕ) → Type 0
FirstValuesHold f i [] = Unit {0}
FirstValuesHold f i (o ∷ os) =
    InScopeIf (before_local f i) start_state.visible o × FirstValuesHold f (suc i) os

-- the rules of scope hold in the whole function
pub record ScopeHolds (f : Function) : Type 0 where
  pub first_values : FirstValuesHold f 0 f.first_values
  pub body : StatementsHold f start_state f.body

-- where operands stand before their expressions, the check
-- of scope holds of a function exactly if these rules do
abbrev pub ScopeCheckIsTheRules : Type 0
ScopeCheckIsTheRules =
    (f : Naming) → ((h : ℕ) → AllBelow h (operands_of (expression_of f.function h))) →
    (IsTrue (fits_function f) ↔ ScopeHolds f.function)

-- The law of progress: a call isn't stuck, neither in the module nor in its text.
--
-- Throughout, p is a module, n are its names and fs its functions with theirs, f is a function, h a
-- handle, st and ss are statements, a and b bodies, m is the meaning, w the world, g the number of
-- a function, vs are its arguments and t the events so far.
use Rattle.std.specs.Prelude.{◌≡◌, ℕ, Bool, true, false, List, [], ◌∷◌, Option, Some, None, IsTrue}
use Rattle.shader_runs.specs.Value.{ValueType, BooleanType, IntegerType, PointerType, Value}
use Rattle.shader_runs.specs.Value.{has_types}
use Rattle.shader_runs.specs.World.{World, Meaning, Event, Settings}
use Rattle.shader_runs.specs.Outcome.{Stop, Stuck, ReachedOrHalted, Gives, Halts}
use Rattle.shader_runs.specs.Program.{Expression, Load, Statement, Store, Block, If, Switch, Loop}
use Rattle.shader_runs.specs.Program.{Break, Continue, Statements, end, then, Cases, no_case, case}
use Rattle.shader_runs.specs.Program.{Function, function_numbered, expression_of, handle_type}
use Rattle.shader_runs.specs.Program.{Module, Jumps, Jump}
use Rattle.shader_runs.specs.Constants.{run_module, follow_module}
use Rattle.shader_runs.specs.Scope.{ModuleNames, Naming}
use Rattle.shader_runs.specs.Form.{form_module}
use Rattle.shader_runs.specs.Premises.{IsTyped, SettingsFit}
use Rattle.shader_runs.specs.Correct.{KeepsTypes, ModuleFits}

-- the type of a pointer
abbrev pub IsPointer : ValueType → Type 0
IsPointer (PointerType spelling) = Unit {0}
IsPointer _ = ⊥

-- the type of an integer
abbrev pub IsInteger : ValueType → Type 0
IsInteger (IntegerType spelling) = Unit {0}
IsInteger _ = ⊥

-- the type of a truth value
abbrev pub IsBoolean : ValueType → Type 0
IsBoolean BooleanType = Unit {0}
IsBoolean _ = ⊥

-- a load is from a pointer
abbrev pub LoadFits : Function → Option Expression → Type 0
LoadFits f (Some (Load p)) = IsPointer (handle_type f p)
LoadFits f _ = Unit {0}

-- a `break if` has a truth value
abbrev pub BreakIfFits : Function → Option ℕ → Type 0
BreakIfFits f None = Unit {0}
BreakIfFits f (Some h) = IsBoolean (handle_type f h)

-- a `break` stands where it may, and so does a `continue`
abbrev pub JumpStands : (breaks continues : Bool) → Jump ℕ → Type 0
JumpStands breaks continues Break = IsTrue breaks
JumpStands breaks continues Continue = IsTrue continues
JumpStands breaks continues _ = Unit {0}

abbrev mutual
  -- a condition is a truth value, a selector is an integer, and a store goes to a pointer. `break`
  -- stands in a loop's body or in a case, `continue` in a loop's body, and neither leaves a
  -- `continuing`: breaks and continues tell which of them may stand here
  pub IsWellFormed : Function → (breaks continues : Bool) → Statement → Type 0
  IsWellFormed f breaks continues (Store p v) = IsPointer (handle_type f p)
  IsWellFormed f breaks continues (Block b) = AreWellFormed f breaks continues b
  IsWellFormed f breaks continues (If c a b) =
      IsBoolean (handle_type f c) × AreWellFormed f breaks continues a
      × AreWellFormed f breaks continues b
  IsWellFormed f breaks continues (Switch h cases) =
      IsInteger (handle_type f h) × CasesAreWellFormed f continues cases
  IsWellFormed f breaks continues (Loop b d e) =
      AreWellFormed f true true b × AreWellFormed f false false d × BreakIfFits f e
  IsWellFormed f breaks continues (Jumps j) = JumpStands breaks continues j
  IsWellFormed f breaks continues _ = Unit {0}

  pub AreWellFormed : Function → (breaks continues : Bool) → Statements → Type 0
  AreWellFormed f breaks continues end = Unit {0}
  AreWellFormed f breaks continues (then s ss) =
      IsWellFormed f breaks continues s × AreWellFormed f breaks continues ss

  pub CasesAreWellFormed : Function → (continues : Bool) → Cases → Type 0
  CasesAreWellFormed f continues no_case = Unit {0}
  CasesAreWellFormed f continues (case l b falls cs) =
      AreWellFormed f true continues b × CasesAreWellFormed f continues cs

-- a function, whose body has no loop around it
pub record FunctionIsWellFormed (f : Function) : Type 0 where
  pub loads : (h : ℕ) → LoadFits f (expression_of f h)
  pub body : AreWellFormed f false false f.body

-- each function
abbrev pub AllWellFormed : List Function → Type 0
AllWellFormed [] = Unit {0}
AllWellFormed (f ∷ fs) = FunctionIsWellFormed f × AllWellFormed fs

-- a reason to end, other than that a wanted value is missing
abbrev pub NotStuck : Stop → Type 0
NotStuck Stuck = ⊥
NotStuck _ = Unit {0}

-- a call returns, or it ends by a discard, out of turns, for want of a callee's result or at an
-- answer of a wrong type
abbrev pub IsNotStuck : ReachedOrHalted (Option Value) → Type 0
IsNotStuck (Gives v t) = Unit {0}
IsNotStuck (Halts x t) = NotStuck x

-- in a module whose scope holds, and which is well-formed, no call with arguments of the right
-- types is stuck: in no world the module's run, and in no world that keeps the types the text's
abbrev pub RunsAreNotStuck : Type 0
RunsAreNotStuck =
    (p : Module) (n : ModuleNames) (fs : List Naming) →
    ModuleFits p n fs →
    AllWellFormed p.functions →
    (settings : Settings) → SettingsFit p settings →
    (m : Meaning) → IsTyped p m →
    (g : ℕ) (f : Function) → function_numbered p.functions g ≡ Some f →
    (vs : List Value) → IsTrue (has_types p.parts f.argument_types vs) →
    (w : World) (turns : ℕ) (t : List Event) →
    let module_run = run_module p settings w m turns g vs t in
    let text = form_module p n fs in
    let text_run =
    follow_module text p.parts settings w m n.vocabulary turns (n.function g) vs t in
    IsNotStuck module_run × (KeepsTypes module_run → IsNotStuck text_run)

-- The two facts that hold at each point that a run of a function passes.
--
-- Throughout, p is a module, n are its names, f is a function with its names
-- and fs are those before it, c is a call, l is what words do, m the meaning, w
-- the world, s are the handles in scope, k is how many names have been given, q
-- a point, h a handle, x a name, v a value (vs are several), t are the events
-- so far, b and d bodies, i and j an index of a case and the number of a turn.
use Rattle.std.specs.Prelude.{◌≡◌, ℕ, zero, suc, false, List, ◌∷◌, ◌++◌, Some, IsTrue}
use Rattle.shader_runs.specs.Value.{Bytes, PartTypes, Value, has_types}
use Rattle.shader_runs.specs.World.{Event, entries, World, Meaning, Environment, Settings}
use Rattle.shader_runs.specs.Outcome.{Gives}
use Rattle.shader_runs.specs.Program.{Statement, Emit, If, Switch, Loop, Statements, end, then}
use Rattle.shader_runs.specs.Program.{Cases, no_case, case, Function, from, Module}
use Rattle.shader_runs.specs.ProgramRun.{Call, EmittedValues, used_value, constants_at_start, run_call}
use Rattle.shader_runs.specs.TextRun.{IsValue, Scope, Words, value_of, with_parameters}
use Rattle.shader_runs.specs.TextRun.{with_variables, word_use, is_operation, follow_call}
use Rattle.shader_runs.specs.Scope.{Bound, Handles, ModuleNames, Naming, usable, named_by}
use Rattle.shader_runs.specs.Scope.{named_by_all, after, after_emit, after_all, at_start}
use Rattle.shader_runs.specs.Scope.{named_after_all}
use Rattle.shader_runs.specs.Constants.{environment_of, module_scope}
use Rattle.shader_runs.specs.Form.{value_at, form_all, form_function, form_functions, form_module}
use Rattle.shader_runs.specs.Form.{functions_of}
use Rattle.shader_runs.specs.Premises.{IsTyped, SettingsFit}
use Rattle.shader_runs.specs.Correct.{ModuleFits}
use Rattle.shader_runs.specs.Passes.{Region, Reject, CaseBody, Continuing, BreakIf, Point, here}
use Rattle.shader_runs.specs.Passes.{following, inside, emitting, statements_in, statements_at}
use Rattle.shader_runs.specs.Passes.{lines_after, Passes, TextPasses, point_in_text, falls_at}

-- a name in scope has the value that the module uses for its handle; and what is written for any
-- handle in scope makes no event and gives, evaluated now, the value that the module uses
pub record FactsHold (c : Call) (l : Words) (f : Naming) (s : Handles) (kept : EmittedValues)
    (names : Scope) : Type 0 where
  pub named : (h : ℕ) (x : Bytes) → s h ≡ Bound x →
      (v : Value) × (used_value c kept h ≡ Some v) × (names x ≡ Some (IsValue v))
  pub written : (h : ℕ) → IsTrue (usable c.function s h) →
      (v : Value)
      × (used_value c kept h ≡ Some v)
      × ((t : List Event) → value_of l (value_at f s h) names t ≡ Gives v t)

-- a call of f, which stands after these functions
abbrev pub call_of :
    Environment → World → Meaning → ℕ → Naming → List Naming → List Value → List Event → Call
call_of env w m turns f fs vs t =
    record {
      function = f.function;
      callees = functions_of fs;
      environment = env;
      world = w;
      meaning = m;
      arguments = vs;
      frame = entries t;
      calls = run_call env w m turns (functions_of fs);
    }

-- what words do in its text, inside these module-level
-- names, where these are all functions of the module
abbrev pub words_of :
    PartTypes → (outer : Scope) → ModuleNames → (all : List Naming) → World → Meaning →
    (turns : ℕ) → List Naming → Words
words_of parts outer n all w m turns fs =
    let uses = word_use (form_functions all) n.vocabulary in
    record {
      parts = parts;
      world = w;
      meaning = m;
      operates = λ word. is_operation (uses word);
      respond = follow_call parts outer w m uses turns (form_functions fs);
    }

-- the names that its text starts with
abbrev pub names_of : (outer : Scope) → Naming → List Value → List Event → Scope
names_of outer f vs t =
    let text = form_function f in
    with_variables text.variables (entries t) 0 (with_parameters text.parameters vs outer)

-- how many names were given in front of the case with this index
abbrev pub named_before : Function → Cases → ℕ → ℕ → ℕ
named_before f no_case i k = k
named_before f (case l b falls cs) zero k = k
named_before f (case l b falls cs) (suc i) k = named_before f cs i (named_by_all f b k)

-- how many names were given in front of a region
abbrev pub named_in : Function → Statement → Region → ℕ → ℕ
named_in f (If h a b) Reject k = named_by_all f a k
named_in f (Switch h cases) (CaseBody i) k = named_before f cases i k
named_in f (Loop b d e) (Continuing j) k = named_by_all f b k
named_in f _ _ k = k

-- the handles in scope in front of a region
abbrev pub handles_in : Naming → ℕ → Statement → Region → Handles → Handles
handles_in f k (Loop b d e) (Continuing j) s = after_all f k b s
handles_in f k (Loop b d e) (BreakIf j) s =
    after_all f (named_by_all f.function b k) d (after_all f k b s)
handles_in f k _ _ s = s

-- the handles in scope at a point of a list
abbrev pub handles_at : Naming → ℕ → Statements → Point → Handles → Handles
handles_at f k ss here s = s
handles_at f k end q s = s
handles_at f k (then st ss) (following q) s =
    handles_at f (named_by f.function st k) ss q (after f k st s)
handles_at f k (then st ss) (inside g q) s =
    handles_at f (named_in f.function st g k) (statements_in st g) q (handles_in f k st g s)
handles_at f k (then (Emit first count) ss) (emitting i) s = after_emit f k (from first i) s
handles_at f k (then _ ss) (emitting i) s = s

-- how many names were given in front of a point of a list
abbrev pub named_at : Function → ℕ → Statements → Point → ℕ
named_at f k ss here = k
named_at f k end q = k
named_at f k (then st ss) (following q) = named_at f (named_by f st k) ss q
named_at f k (then st ss) (inside g q) = named_at f (named_in f st g k) (statements_in st g) q
named_at f k (then (Emit first count) ss) (emitting i) = named_after_all f (from first i) k
named_at f k (then _ ss) (emitting i) = k

-- the lines after the point of the text are those that are written, with these handles in scope,
-- for the statements after the point of the list. A case that falls through is empty, and has the
-- lines of the next one
abbrev pub LinesAreTheForm : Naming → Statements → Point → Type 0
LinesAreTheForm f body q =
    let start = at_start f.function in
    falls_at body q ≡ false →
    lines_after (form_all f 0 body start) (point_in_text f.function body q)
    ≡ form_all f (named_at f.function 0 body q) (statements_at body q) (handles_at f 0 body q start)

-- of a function of a module, after those before it, called with arguments of its types at any
-- history: where the module's run of its body passes a point, the text's run of its lines passes
-- the point there, in the same turns and after the same events; what stands after it is written as
-- the form says, and the two facts hold. The first point is the start. The points in a callee are
-- those of the callee's own call
abbrev pub PointsAgreeIn :
    Module → ModuleNames → (later : List Naming) → Naming → (fs : List Naming) → Type 0
PointsAgreeIn p n later f fs =
    (settings : Settings) → SettingsFit p settings →
    (m : Meaning) → IsTyped p m →
    (vs : List Value) → IsTrue (has_types p.parts f.function.argument_types vs) →
    (w : World) (turns : ℕ) (before_entry t : List Event) →
    let all = later ++ (f ∷ fs) in
    let env = environment_of p settings m in
    let outer = module_scope (form_module p n all) p.parts settings w m n.vocabulary in
    let c = call_of env w m turns f fs vs before_entry in
    let l = words_of p.parts outer n all w m turns fs in
    let first_names = names_of outer f vs before_entry in
    let body = f.function.body in
    let start = at_start f.function in
    (q : Point) (kept : EmittedValues) (t1 : List Event) →
    let in_text = point_in_text f.function body q in
    Passes c turns body q (constants_at_start f.function env m) t kept t1 →
    (names : Scope)
    × TextPasses l turns (form_all f 0 body start) in_text first_names t names t1
    × LinesAreTheForm f body q
    × FactsHold c l f (handles_at f 0 body q start) kept names

-- of each function of a module whose scope holds
abbrev pub PointsAgree : Type 0
PointsAgree =
    (p : Module) (n : ModuleNames) (later : List Naming) (f : Naming) (fs : List Naming) →
    ModuleFits p n (later ++ (f ∷ fs)) → PointsAgreeIn p n later f fs

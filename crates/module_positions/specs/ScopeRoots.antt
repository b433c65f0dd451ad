-- Why an operand that is out of scope has no value, as it is told: the expression that it comes from,
-- the statement where that had none, and the statement that gives it.
--
-- Throughout, n is the number of a statement, h the handle of an operand that is out of scope, end the
-- number of the first statement that stands after the point where a value is needed, or of the one
-- that needs it, a what is asked for, m a module and g a function of it.
use Rattle.std.specs.Prelude.{ℕ, ◌==◌, ◌&&◌, Bool, true, false, List, [], ◌++◌, codes, decimal}
use Rattle.std.specs.Prelude.{nat_lt}
use Rattle.std.specs.Prelude.{Option, None, Some, if◌then◌else◌, slice_get}
use Rattle.std.specs.Option.{option_and_then, option_map}
use Rattle.module_positions.specs.Roots.{root_by, value_at, values_at}
use Rattle.module_positions.specs.declared.root_texts.Asked.{Asked}
use Rattle.module_positions.specs.declared.root_texts.Giver.{Giver}
use Rattle.module_positions.specs.declared.root_texts.Giver.TheVariants.{Nothing, Ended, Skipped, Later}
use Rattle.module_positions.specs.declared.root_texts.ScopeRoot.{ScopeRoot}
use Rattle.module_positions.specs.declared.roots.Root.{Root}
use Rattle.module_positions.specs.declared.roots.Stop.{Stop}
use Rattle.module_positions.specs.declared.roots.Stop.TheVariants as stop
use Rattle.naga_ir.specs.declared.module.Function.{Function}
use Rattle.naga_ir.specs.declared.module.Module.{Module}
use Rattle.naga_listing.specs.Givers.{giver}
use Rattle.naga_scope.specs.declared.scope_faults.ScopeFault.{ScopeFault}
use Rattle.naga_scope.specs.declared.scope_faults.ScopeFault.TheVariants as fault
use Rattle.naga_scope.specs.declared.positions.FunctionRefusalPosition.{FunctionRefusalPosition}
use Rattle.naga_scope.specs.declared.positions.FunctionRefusalPosition.TheVariants.{Scope}
use Rattle.naga_scope.specs.declared.positions.RefusalPosition.{RefusalPosition}
use Rattle.naga_scope.specs.declared.positions.RefusalPosition.TheVariants as refused

-- what a fault asks for: by which statement, where in it, and the operand
abbrev pub asked_by : ScopeFault → Option Asked
asked_by (fault.FirstValue local value) = None
asked_by (fault.Operand n h) =
    Some (record { statement = n; stop = stop.Before; operand = h })
asked_by (fault.BreakIf n next h) =
    Some (record { statement = n; stop = stop.BreakIf next; operand = h })
asked_by (fault.EmittedOperand n e h) =
    Some (record { statement = n; stop = stop.Giving e; operand = h })
asked_by (fault.IntroducedBefore n e) = None
asked_by (fault.NeedsNoEmit n e) = None

abbrev pub root_end : (is_there : Bool) → Stop → (n : ℕ) → ℕ
root_end true (stop.BreakIf next) n = next
root_end false (stop.BreakIf next) n = n
root_end is_there stop.Before n = n
root_end is_there (stop.Giving e) n = n

-- what gives it: the statement that a `continue` may skip, or else the first that gives it. Before the
-- end that stands in a block that has ended, since what stands in sight of the point gives a value
abbrev pub giver_by : (skipped : Option ℕ) → (end : ℕ) → (first : Option ℕ) → Giver
giver_by (Some n) end first = Skipped n
giver_by None end None = Nothing
giver_by None end (Some n) = if nat_lt n end then Ended n else Later n

abbrev pub told_root : Function → Asked → Root → ScopeRoot
told_root g a root = record {
  expression = root.expression;
  statement = root.statement;
  giver =
      giver_by root.skipped (root_end (root.statement == a.statement) a.stop root.statement)
      (giver g.body root.expression);
  is_operand = (root.statement == a.statement) && (root.expression == a.operand);
}

abbrev pub asked_root : Function → Asked → Option ScopeRoot
asked_root g a =
    option_map (told_root g a)
    (root_by a.statement a.operand
    (value_at (values_at g.expressions g.body a.statement a.stop) a.operand))

abbrev pub scope_root : Function → ScopeFault → Option ScopeRoot
scope_root g f = option_and_then (asked_root g) (asked_by f)

-- of what is refused in a function
abbrev pub root_in_function : FunctionRefusalPosition → Function → Option ScopeRoot
root_in_function (Scope f) g = scope_root g f
root_in_function part g = None

abbrev pub root_in : Module → RefusalPosition → Option ScopeRoot
root_in m (refused.Function h part) = option_and_then (root_in_function part) (slice_get m.functions h)
root_in m (refused.EntryPoint i part) =
    option_and_then (λ e. root_in_function part e.function) (slice_get m.entry_points.items i)
root_in m at = None

-- ---- texts
abbrev pub giver_text : Giver → List ℕ
giver_text Nothing = codes "no statement gives it"
giver_text (Ended n) =
    codes "statement " ++ decimal n ++ codes " gives it, in a block that has ended"
giver_text (Skipped n) =
    codes "statement " ++ decimal n ++ codes " gives it, where a continue may skip it"
giver_text (Later n) = codes "statement " ++ decimal n ++ codes " gives it, too late"

abbrev pub root_text : ScopeRoot → List ℕ
root_text root =
    if root.is_operand then giver_text root.giver
    else codes "expressions["
    ++ (decimal root.expression
    ++ (codes "] has no value at statement "
    ++ (decimal root.statement ++ (codes "; " ++ giver_text root.giver))))

-- after all else that is told of a refusal
abbrev pub root_after : Option ScopeRoot → List ℕ
root_after None = []
root_after (Some root) = codes ": " ++ root_text root

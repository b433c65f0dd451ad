-- Which handles are in scope after a list of statements, with nothing forgotten.
use Rattle.std.specs.Prelude.{ℕ}
use Rattle.shader_runs.specs.Program.{Statements, end, then}
use Rattle.shader_runs.specs.Scope.{Handles, Naming, after, named_by}

abbrev pub after_each : Naming → ℕ → Statements → Handles → Handles
after_each f k end s = s
after_each f k (then st ss) s = after_each f (named_by f.function st k) ss (after f k st s)

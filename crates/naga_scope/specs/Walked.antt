-- A walk over a function, as contracts see it: what it is over, and what of it lacks.
--
-- Throughout, w is a walk, and k is a function with what is known of it.
use Rattle.std.specs.Prelude.{Bool}
use Rattle.naga_scope.specs.FirstLack.{WrittenFunction}
use Rattle.naga_scope.specs.KnownFunctions.{expressions_of, has_form_in}
use Rattle.naga_scope.specs.Lacks.{AreLowestLacks}
use Rattle.naga_scope.specs.declared.known_function.KnownFunction.{KnownFunction}
use Rattle.naga_scope.specs.declared.walk.Walk.{Walk}
use Rattle.naga_tables.specs.Tables.{AreTablesOf}

-- the function that is to be written, by what is known of it
abbrev pub written_by : (explicit : Bool) → KnownFunction → WrittenFunction
written_by explicit k = record {
  explicit = explicit;
  shader = k.whole.shader.now;
  info = k.whole.info.now;
  function = k.function.now;
  known = k.info.now;
}

-- and that of a walk
abbrev pub walked : Walk → WrittenFunction
walked w = written_by w.explicit w.known

-- the tables of a walk are those of its module and its function
pub record HasTables (w : Walk) : Type 0 where
  pub tables : AreTablesOf w.known.whole.shader.now w.known.whole.tables.now
  pub lacks : AreLowestLacks (has_form_in w.known) (expressions_of w.known) w.lacks.now

use Rattle.std.proofs.Common.{ap, false, sym, true, ◌∙◌}
use Rattle.module_semantics.specs.FunctionShapes.{function_shape}
use Rattle.naga_scope.specs.Availabilities.{handles_of}
use Rattle.naga_scope.specs.ScopeChecks.{check_first}
use Rattle.naga_scope.proofs.FirstValues.{first_checked}
use Rattle.naga_scope.proofs.check.check_first_value.Goals as goal

pub returns-then-first_value_holds : goal.returns-then-first_value_holds
returns-then-first_value_holds c named m known es start =
    first_checked (function_shape m known c.args.function.now es) c.args.handle c.in-Some.value
    (handles_of named c.args.scope.now.table) c.args.local.now.init true c.in-Some.is start
    (sym c.if-first_value_holds.true ∙ c.first_value_holds.ensures named m known es)

pub returns-else-first_value_holds : goal.returns-else-first_value_holds
returns-else-first_value_holds c named m known es start =
    first_checked (function_shape m known c.args.function.now es) c.args.handle c.in-Some.value
    (handles_of named c.args.scope.now.table) c.args.local.now.init false c.in-Some.is start
    (sym c.if-first_value_holds.false ∙ c.first_value_holds.ensures named m known es)

pub returns-in-None : goal.returns-in-None
returns-in-None c named m known es start =
    sym (ap (check_first (function_shape m known c.args.function.now es) c.args.handle) c.in-None.is)

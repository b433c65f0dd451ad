use Rattle.std.proofs.Common.{ap, sym, ◌∙◌}
use Rattle.shader_runs.specs.Scope.{usable_if}
use Rattle.module_semantics.specs.FunctionShapes.{function_shape}
use Rattle.naga_scope.specs.Availabilities.{handles_of}
use Rattle.naga_scope.proofs.check.is_usable_if.Goals as goal

pub returns-in-Some : goal.returns-in-Some
returns-in-Some c named m known es =
    c.is_usable.ensures named m known es
    ∙ ap (usable_if (function_shape m known c.args.function.now es)
    (handles_of named c.args.scope.now.table)) (sym c.in-Some.is)

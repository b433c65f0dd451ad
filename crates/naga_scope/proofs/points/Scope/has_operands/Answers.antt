use Rattle.std.proofs.Common.{[], ap, sym, ◌∙◌}
use Rattle.std.specs.Option.{option_map, option_map_or}
use Rattle.naga_ir.specs.Operands.{expression_operands}
use Rattle.shader_runs.specs.Scope.{usable_all}
use Rattle.module_semantics.specs.FunctionShapes.{function_shape}
use Rattle.naga_scope.specs.Availabilities.{handles_of}
use Rattle.naga_scope.proofs.points.Scope.has_operands.Goals as goal

pub returns-in-Some : goal.returns-in-Some
returns-in-Some c named m known es =
    let at = sym c.expression_at.ensures ∙ ap (option_map (λ e. e.now)) c.in-Some.is in
    c.are_usable.ensures named m known es
    ∙ sym (ap (λ o. usable_all (function_shape m known c.args.function.now es)
    (handles_of named c.args.self.now.table) (option_map_or expression_operands o [])) at)

pub returns-in-None : goal.returns-in-None
returns-in-None c named m known es =
    let at = sym c.expression_at.ensures ∙ ap (option_map (λ e. e.now)) c.in-None.is in
    sym (ap (λ o. usable_all (function_shape m known c.args.function.now es)
    (handles_of named c.args.self.now.table) (option_map_or expression_operands o [])) at)

use Rattle.std.proofs.Common.{◌&&◌, ap, sym, ◌∙◌}
use Rattle.naga_scope.specs.Availabilities.{handles_of, is_earlier}
use Rattle.naga_scope.proofs.FirstValues.{usable_before}
use Rattle.naga_scope.proofs.check.first_value_holds.Goals as goal

pub returns-then-is_usable_if : goal.returns-then-is_usable_if
returns-then-is_usable_if c named m known es =
    let f = c.args.function.now in
    let init = c.args.local.now.init in
    c.is_earlier.ensures
    ∙ ap (λ b. b && is_earlier f.expressions c.args.handle init)
    (sym (sym (c.is_usable_if.ensures named m known es) ∙ c.if-is_usable_if.true))
    ∙ usable_before m known f es c.args.handle (handles_of named c.args.scope.now.table) init

pub returns-else-is_usable_if : goal.returns-else-is_usable_if
returns-else-is_usable_if c named m known es =
    let f = c.args.function.now in
    let init = c.args.local.now.init in
    c.if-is_usable_if.false
    ∙ ap (λ b. b && is_earlier f.expressions c.args.handle init)
    (sym (sym (c.is_usable_if.ensures named m known es) ∙ c.if-is_usable_if.false))
    ∙ usable_before m known f es c.args.handle (handles_of named c.args.scope.now.table) init

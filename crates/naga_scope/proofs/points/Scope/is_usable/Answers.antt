use Rattle.std.proofs.Common.{ap₂, sym, ◌∙◌}
use Rattle.module_semantics.specs.Names.{numbered_name}
use Rattle.naga_scope.specs.Availabilities.{handles_of, availability_of, usable_by}
use Rattle.naga_scope.proofs.ShapeKinds.{usable_is}
use Rattle.naga_scope.proofs.points.Scope.is_usable.Goals as goal

pub returns : goal.returns
returns c named m known es =
    let h = c.args.handle in
    let f = c.args.function.now in
    c.stands_usable.ensures named (numbered_name h)
    ∙ ap₂ (λ o cell. usable_by f o (availability_of named (numbered_name h) cell)) c.expression_at.ensures
    c.availability.ensures
    ∙ sym (usable_is m known f es (handles_of named c.args.self.now.table) h)

use Rattle.std.proofs.Common.{[], ◌∷◌, ◌≡◌, Err, Ok, ap, refl, sym, ◌∙◌}
use Rattle.std.specs.Result.{result_and}
use Rattle.naga_scope.specs.KnownFunctions.{handles_at, shape_of}
use Rattle.naga_scope.specs.ScopeChecks.{Checked, check_use, check_uses, unless}
use Rattle.naga_scope.specs.declared.scope_faults.ScopeFault.TheVariants.{Operand}
use Rattle.naga_scope.proofs.check.check_two.Goals as goal

and_done : (checked : Checked) → result_and checked (Ok tt) ≡ checked
and_done (Ok tt) = refl
and_done (Err fault) = refl

pub returns-then-not-is_usable : goal.returns-then-not-is_usable
returns-then-not-is_usable c =
    let f = shape_of c.args.known.now in
    let s = handles_at c.args.scope.now in
    let n = c.args.number in
    ap (λ usable. result_and (unless usable (Operand n c.args.first)) (check_uses f s n (c.args.second ∷ [])))
    (sym (sym c.is_usable.ensures ∙ c.if-not-is_usable.true))

pub returns : goal.returns
returns c =
    let f = shape_of c.args.known.now in
    let s = handles_at c.args.scope.now in
    let n = c.args.number in
    c.check_use.ensures
    ∙ sym (and_done (check_use f s n c.args.second))
    ∙ ap (λ usable. result_and (unless usable (Operand n c.args.first)) (check_uses f s n (c.args.second ∷ [])))
    (sym (sym c.is_usable.ensures ∙ c.if-not-is_usable.false))

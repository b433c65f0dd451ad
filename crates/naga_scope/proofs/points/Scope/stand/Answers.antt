use Rattle.std.proofs.Common.{◌<◌, length, sym, subst, ◌∙◌}
use Rattle.std.specs.Prelude.{IsTrue, get_or}
use Rattle.naga_scope.specs.Log.{grows}
use Rattle.naga_scope.specs.declared.points.Availability.TheVariants.{Absent}
use Rattle.naga_scope.specs.Availabilities.{TextPoint}
use Rattle.naga_scope.proofs.Logs.{change_extends, extends_refl}
use Rattle.naga_scope.proofs.points.Scope.stand.Goals as goal

pub returns-then-index-len-clause-kept : goal.returns-then-index-len-clause-kept
returns-then-index-len-clause-kept c =
    let within : c.index-index.result < length c.args.self.now.table =
    subst (λ (p : TextPoint). c.index-index.result < length p.table) c.self.view_is
    (subst (λ n. c.index-index.result < n) (c.len.ensures ∙ c.self.inside.availabilities.ok.0)
    c.if-index-len.true) in
    change_extends c.args.self.now c.change.new.self c.index-index.result c.args.availability within
    (subst (λ h. IsTrue (grows (get_or c.args.self.now.table h Absent) c.args.availability))
    (sym c.index-index.ensures) c.requires.grows)
    c.change.ensures.table c.change.ensures.log c.change.ensures.room

pub returns-else-index-len-clause-kept : goal.returns-else-index-len-clause-kept
returns-else-index-len-clause-kept c = extends_refl c.args.self.now

use Rattle.std.proofs.Common.{◌≡◌, ◌<◌, ◌∙◌, arith, sym, length, ap, subst, take, get_or, slice_set}
use Rattle.naga_scope.specs.Availabilities.{TextPoint, forgotten_cell}
use Rattle.naga_scope.specs.declared.points.Availability.TheVariants.{Absent}
use Rattle.std.proofs.lemmas.List.{length-take-le}
use Rattle.naga_scope.proofs.Logs.{one_forgotten}
use Rattle.naga_scope.proofs.points.Scope.forget_at.Goals as goal

pub returns : goal.returns
returns c =
    let some : c.args.number < length (take c.self.inside.used c.self.inside.log.items) =
    subst (λ (s : TextPoint). c.args.number < length s.log) (sym c.self.view_is) c.requires in
    let used : length (take c.self.inside.used c.self.inside.log.items) ≡ c.self.inside.used =
    length-take-le c.self.inside.used c.self.inside.log.items c.self.invariant in
    one_forgotten c.self.inside.log.items c.self.inside.used c.self.inside.named c.args.number
    c.self.inside.availabilities.items c.index-change.result.now _ _ (omega
    (arith, some, used)) c.self.invariant c.index-change.ensures c.self.view_is
    (λ i. record {
      table = sym (c.stand_at.ensures
          ∙ ap (λ x. slice_set c.self.inside.availabilities.items c.index-change.result.now.index x)
          (c.forgotten-left.ensures ∙ ap (forgotten_cell c.index-change.result.now.before)
          (c.availability_in-now.ensures
          ∙ ap (λ t. get_or t c.index-change.result.now.index Absent) c.deref.ensures.value))) i;
      log = take c.self.inside.used c.self.inside.log.items;
      room = length c.self.inside.log.items;
      named = c.self.inside.named;
    })

use Rattle.std.proofs.Common.{◌≡◌, ◌<◌, ◌-◌, arith, sym, length, subst, take}
use Rattle.std.proofs.lemmas.List.{length-take-le}
use Rattle.naga_scope.specs.Availabilities.{TextPoint}
use Rattle.naga_scope.proofs.Logs.{last_undone}
use Rattle.naga_scope.proofs.points.Scope.undo_last.Goals as goal

pub returns : goal.returns
returns c =
    let some : 0 < length (take c.self.inside.used c.self.inside.log.items) =
    subst (λ (s : TextPoint). 0 < length s.log) (sym c.self.view_is) c.requires in
    let used : length (take c.self.inside.used c.self.inside.log.items) ≡ c.self.inside.used =
    length-take-le c.self.inside.used c.self.inside.log.items c.self.invariant in
    last_undone c.self.inside.log.items c.self.inside.used c.self.inside.named
    c.self.inside.availabilities.items c.index-change.result.now _ _ (omega
    (arith, some, used)) c.self.invariant c.index-change.ensures c.self.view_is
    (λ i. record {
      table = sym c.stand_at.ensures i;
      log = take (c.self.inside.used - 1) c.self.inside.log.items;
      room = length c.self.inside.log.items;
      named = c.self.inside.named;
    })

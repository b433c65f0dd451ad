use Rattle.std.proofs.Common.{ap, ◌∙◌}
use Rattle.naga_scope.specs.Availabilities.{TextPoint}
use Rattle.naga_scope.proofs.points.Scope.rewind.Goals as goal

pub returns-clause-restores : goal.returns-clause-restores
returns-clause-restores c before at reverts =
    let same = c.back_to.ensures.restores before at reverts in
    record {
      table = ap (λ (p : TextPoint). p.table) c.self.view_is ∙ same.table;
      log = ap (λ (p : TextPoint). p.log) c.self.view_is ∙ same.log;
      room = ap (λ (p : TextPoint). p.room) c.self.view_is ∙ same.room;
    }

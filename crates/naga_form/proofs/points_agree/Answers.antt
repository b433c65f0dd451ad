use Rattle.std.proofs.Common.{subst}
use Rattle.module_semantics.specs.ModuleShapes.{module_shape}
use Rattle.module_semantics.specs.Names.{module_names}
use Rattle.module_semantics.specs.Namings.{outer_names}
use Rattle.shader_runs.specs.Correct.{ModuleFits}
use Rattle.shader_runs.proofs.Points.{points_agree}
use Rattle.naga_form.proofs.ModuleFits.{module_fits_under}
use Rattle.naga_form.proofs.statements.ScopeRules.{scopes_are_checked_under}
use Rattle.naga_form.proofs.points_agree.Goals as goal

pub returns : goal.returns
returns c = λ m info flags named are accepted declarations have scopes later f fs split.
    let shape = module_shape m info in
    let outer = outer_names (module_names m) m in
    points_agree shape outer later f fs
    (subst (ModuleFits shape outer) split
    (module_fits_under m info accepted flags have named are
    ((scopes_are_checked_under m info accepted named).1 scopes)))

use Rattle.std.proofs.Common.{◌≡◌, ◌∙◌, ap, sym, [], None, ℕ, Option}
use Rattle.std.specs.Option.{option_map, option_or}
use Rattle.indexmap.specs.IndexMap.{values}
use Rattle.fault_details.specs.Demands.{OfEach, Reason, there, unmet}
use Rattle.fault_details.specs.Reasons.{texture_demands}
use Rattle.fault_details.specs.Shown.{shown}
use Rattle.module_semantics.specs.declared.named.ListName.TheVariants as list
use Rattle.fault_details.proofs.names.special_reason.Goals as goal

pub returns-in-None : goal.returns-in-None
returns-in-None c =
    let special = c.args.«module».now.special_types in
    let first : ℕ → Option Reason = λ n. unmet [] (OfEach (there list.Types n) (values special.predeclared_types)) in
    let none : None ≡ first c.len-types.result = ap (option_map shown) (sym c.in-None.is) ∙ c.predeclared_reason.ensures in
    c.texture_reason.ensures
    ∙ (ap (λ o. option_or o (unmet [] (texture_demands c.len-types.result special))) none
    ∙ ap (λ n. option_or (first n) (unmet [] (texture_demands n special))) c.len-types.ensures)

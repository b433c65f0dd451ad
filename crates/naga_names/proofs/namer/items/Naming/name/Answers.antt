use Rattle.std.proofs.Common.{refl, sym, ◌∙◌}
use Rattle.naga_naming.proofs.Reset.{names_one, refuses_one}
use Rattle.naga_names.proofs.Progress.{gives_after, no_refusal, gives_named, gives_refused}
use Rattle.naga_names.proofs.namer.items.Naming.name.Goals as goal

pub returns-then-is_some-clause-named : goal.returns-then-is_some-clause-named
returns-then-is_some-clause-named c = gives_after _ _ (sym c.is_some.ensures ∙ c.if-is_some.true)

pub returns-in-Err-clause-named : goal.returns-in-Err-clause-named
returns-in-Err-clause-named c =
    let none = no_refusal c.args.self.now.refusal (sym c.is_some.ensures ∙ c.if-is_some.false) in
    gives_refused _ _ _ c.in-Err.refusal none refl (refuses_one _ _ _ _ _ _ c.requires.outside c.in-Err.ensures.err)

pub returns-in_default-clause-named : goal.returns-in_default-clause-named
returns-in_default-clause-named c =
    let none = no_refusal c.args.self.now.refusal (sym c.is_some.ensures ∙ c.if-is_some.false) in
    gives_named _ _ _ none none (names_one _ _ _ _ _ _ c.requires.fits c.requires.outside c.in_default.ensures.ok)

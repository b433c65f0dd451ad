use Rattle.std.proofs.Common.{ap, arith, refl, sym, ◌∙◌}
use Rattle.std.specs.Prelude.{not}
use Rattle.naga_scope.specs.SpelledTypes.{first_unspellable}
use Rattle.naga_scope.proofs.SpelledTypes.{arguments_from, found_argument, not_argument}
use Rattle.std.proofs.lemmas.List.{drop_all}
use Rattle.naga_scope.proofs.spelled.argument_without_form.Goals as goal

pub loop-argument-init : goal.loop-argument-init
loop-argument-init c = record { count = refl; found = refl }

pub returns-then-not-is_spellable : goal.returns-then-not-is_spellable
returns-then-not-is_spellable c =
    found_argument c.args.module.now c.args.arguments.now c.loop-argument.argument-index c.loop-argument.index
    c.argument-item.result c.loop-argument-test.true c.argument-item.is
    (ap not (sym c.is_spellable.ensures ∙ c.if-not-is_spellable.true))
    ∙ c.loop-argument.invariant.found

pub loop-argument-preserved : goal.loop-argument-preserved
loop-argument-preserved c =
    let count = c.loop-argument.invariant.count in
    record {
      count = omega (arith, count);
      found =
          not_argument c.args.module.now c.args.arguments.now c.loop-argument.argument-index c.loop-argument.index
          c.argument-item.result c.loop-argument-test.true c.argument-item.is
          (ap not (sym c.is_spellable.ensures ∙ c.if-not-is_spellable.false))
          ∙ c.loop-argument.invariant.found;
    }

pub returns : goal.returns
returns c =
    sym (ap (λ xs. first_unspellable c.args.module.now (arguments_from c.loop-argument.index xs))
    (drop_all c.loop-argument.argument-index c.args.arguments.now c.loop-argument-test.false))
    ∙ c.loop-argument.invariant.found

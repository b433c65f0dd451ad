use Rattle.std.proofs.Common.{◌≡◌, drop}
use Rattle.naga_scope.specs.SpelledTypes.{argument_types, first_unspellable}
use Rattle.naga_scope.proofs.SpelledTypes.{arguments_from}
use Rattle.naga_scope.proofs.spelled.argument_without_form.Given as goal

abbrev pub invariant-loop-argument : goal.invariant-loop-argument
invariant-loop-argument l = record {
  count : l.index ≡ l.argument-index;
  found : first_unspellable l.module (arguments_from l.index (drop l.argument-index l.arguments)) ≡
      first_unspellable l.module (argument_types l.arguments);
}

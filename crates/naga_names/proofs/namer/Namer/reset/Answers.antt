use Rattle.std.proofs.Common.{◌≡◌, Err, [], Ok, refl, sym, subst, ◌∙◌}
use Rattle.std.proofs.lemmas.Bool.{true≢false}
use Rattle.naga_ir.specs.declared.module.Module.{Module}
use Rattle.naga_naming.specs.Keys.{NameMap}
use Rattle.naga_naming.specs.Naming.{Names, no_names}
use Rattle.naga_naming.specs.Refusal.{IsReset, IsResetRefusal}
use Rattle.naga_naming.specs.Reset.{HasNamedItems, PutsBeginning, labelled_items}
use Rattle.naga_naming.specs.declared.error.NamerError.{NamerError}
use Rattle.naga_naming.specs.declared.error.NamerError.TheVariants.{Memory}
use Rattle.naga_naming.proofs.Reset.{starts, none_full}
use Rattle.naga_naming.proofs.Refusal.{run_out_unfit, unfit_run_out}
use Rattle.naga_names.proofs.Progress.{all_named, some_named}
use Rattle.naga_names.proofs.namer.Namer.reset.Goals as goal

-- where all items have names, no reason to refuse the module stands in it
named : (start : Names) (m : Module) (now : Names) (before after : NameMap) →
    HasNamedItems start before (labelled_items start m) now after → IsReset start m (Ok tt) now before after
named start m now before after has = record {
  ok = has;
  err = tt;
  beginning = tt;
  reason = tt;
  full = λ full. absurd (none_full start before _ now after has full);
  key_full = λ full. absurd (true≢false (sym has.keys ∙ full));
  too_long = tt;
  keys_run_out = λ long. absurd (true≢false (sym has.keys ∙ run_out_unfit start m long));
}

-- and a refusal
refused : (start : Names) (m : Module) (error : NamerError) (now : Names) (before after : NameMap) →
    now ≡ no_names → PutsBeginning start before (labelled_items start m) after →
    IsResetRefusal start m error → IsReset start m (Err error) now before after
refused start m error now before after none some why = record {
  ok = tt;
  err = none;
  beginning = some;
  reason = why;
  full = λ full. refl;
  key_full = λ full. refl;
  too_long = λ is. unfit_run_out start m (subst (IsResetRefusal start m) is why);
  keys_run_out = λ long. refl;
}

pub returns-in-Ok-end : goal.returns-in-Ok-end
returns-in-Ok-end c =
    let same = c.new-naming.ensures.namer
    ∙ starts c.args.reserved_keywords c.args.builtin_identifiers
    c.args.keywords_case_insensitive c.args.module.now.keeps_digits c.new-uses.result c.in-Ok.prefixes.items
    c.args.reserved_prefixes.now c.new-uses.ensures c.in-Ok.ensures.items in
    named _ c.args.module.now _ _ _
    (all_named _ _ _ _ same refl c.new-naming.ensures.refusal c.name_items.ensures _
    (c.in-Ok-end.ensures.ok.0, c.drop-in-Ok-end.view_is ∙ c.in-Ok-end.ensures.ok.1))

pub returns-in-Err-end : goal.returns-in-Err-end
returns-in-Err-end c =
    let same = c.new-naming.ensures.namer
    ∙ starts c.args.reserved_keywords c.args.builtin_identifiers
    c.args.keywords_case_insensitive c.args.module.now.keeps_digits c.new-uses.result c.in-Ok.prefixes.items
    c.args.reserved_prefixes.now c.new-uses.ensures c.in-Ok.ensures.items in
    let some = some_named _ _ _ _ same refl c.new-naming.ensures.refusal c.name_items.ensures _
    c.in-Err-end.ensures.err in
    refused _ c.args.module.now _ _ _ _ (c.drop-in-Err-end.view_is ∙ c.default-in-Err-end.ensures.empty)
    some.0 some.1

pub returns-in-Err : goal.returns-in-Err
returns-in-Err c =
    refused _ c.args.module.now (Memory _) _ _ _ (c.drop.view_is ∙ c.default.ensures.empty)
    (record { named = []; left = _; all = refl; put = record { finds = λ key. refl } }) tt

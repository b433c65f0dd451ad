use Rattle.std.proofs.Common.{sym, ap, ◌∙◌, refl}
use Rattle.std.specs.Str.{chars}
use Rattle.std.proofs.lemmas.Iterator.{YieldsList-from_chars}
use Rattle.std.proofs.lemmas.Iterator.Adapters.{YieldsList-from_skip_while}
use Rattle.std.proofs.lemmas.Iterator.Consumers.{YieldsList-at, YieldsList-end}
use Rattle.naga_naming.specs.Label.{ascii_of, is_numeric}
use Rattle.naga_naming.proofs.Label.{after_numerics-drop, ascii_of-nil, same_items}
use Rattle.naga_names.proofs.namer.label.spell.Goals as goal

pub loop-c-init : goal.loop-c-init
loop-c-init c = c.new-text.ensures.bytes ∙ sym ascii_of-nil

pub returns : goal.returns
returns c =
    let skipped = c.skip_while-c-items.ensures in
    let road = YieldsList-at c.into_iter-c-iterator.ensures.into_iter_gives
    (YieldsList-from_skip_while _ (λ c. c) _ is_numeric _ (λ x b q k. (refl, k.called.met ∙ ap is_numeric k.shows))
    (YieldsList-at skipped.source (YieldsList-from_chars c.args.label.now c.utf8.label c.chars.ensures.rest))
    skipped.closure skipped.done_skipping) in
    let done = YieldsList-end road c.loop-c.yielded c.loop-c.c-iterator c.loop-c.yielded_by c.next.result
    c.next.new.self c.in-None.is c.next.ensures.steps in
    c.loop-c.invariant ∙ ap ascii_of (sym (same_items c.loop-c.yielded) ∙ done.0
    ∙ sym (after_numerics-drop (chars c.args.label.now)))

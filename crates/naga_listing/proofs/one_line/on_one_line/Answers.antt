use Rattle.std.proofs.Common.{◌∙◌, ◌++◌, [], ◌∷◌, ap, append-nil, flat_map, sym}
use Rattle.std.proofs.lemmas.Iterator.{YieldsList-from_chars}
use Rattle.std.proofs.lemmas.Iterator.Consumers.{YieldsList-at, YieldsList-end}
use Rattle.std.proofs.lemmas.List.Concat.{flat_map-append}
use Rattle.naga_naming.proofs.Label.{same_items}
use Rattle.naga_listing.specs.OneLine.{shown_char}
use Rattle.naga_listing.proofs.one_line.on_one_line.Goals as goal

pub loop-c-preserved : goal.loop-c-preserved
loop-c-preserved c =
    c.in_ok-push_shown.ensures ∙ (ap (λ bytes. bytes ++ shown_char c.in-Some.c) c.loop-c.invariant
    ∙ (ap (λ bytes. flat_map shown_char c.loop-c.yielded ++ bytes) (sym (append-nil (shown_char c.in-Some.c)))
    ∙ sym (flat_map-append shown_char c.loop-c.yielded (c.in-Some.c ∷ []))))

pub returns : goal.returns
returns c =
    let road = YieldsList-at c.into_iter-c-iterator.ensures.into_iter_gives
    (YieldsList-from_chars c.args.text.now c.utf8.text c.chars-c-items.ensures.rest) in
    let done = YieldsList-end road c.loop-c.yielded c.loop-c.c-iterator c.loop-c.yielded_by c.next.result
    c.next.new.self c.in-None.is c.next.ensures.steps in
    c.loop-c.invariant ∙ ap (flat_map shown_char) (sym (same_items c.loop-c.yielded) ∙ done.0)

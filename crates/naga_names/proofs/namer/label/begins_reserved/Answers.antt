use Rattle.std.proofs.Common.{◌||◌, [], sym, ap, ◌∙◌, ◌+◌, map, drop, get_or}
use Rattle.std.specs.Bool.{nat_eq}
use Rattle.std.specs.List.{list_any, starts_with}
use Rattle.std.proofs.lemmas.Str.Pattern.{starts_text}
use Rattle.naga_naming.proofs.Label.{any_from}
use Rattle.naga_names.proofs.namer.label.begins_reserved.Goals as goal

pub returns-then-starts_with : goal.returns-then-starts_with
returns-then-starts_with c =
    let i = c.loop-prefix.prefix-index in
    let test = starts_with nat_eq c.args.text.now in
    let turn = any_from test c.args.prefixes.now i (record { ref_ptr = (0, 0); now = [] }) c.loop-prefix-test.true in
    let here = starts_text c.starts_with.result
    (get_or c.args.prefixes.now i (record { ref_ptr = (0, 0); now = [] })).now c.args.text.now
    c.starts_with.ensures.cases in
    sym (c.loop-prefix.invariant ∙ turn
    ∙ ap (λ b. b || list_any test (map (λ p. p.now) (drop (i + 1) c.args.prefixes.now)))
    (sym here ∙ c.if-starts_with.true))

pub loop-prefix-preserved : goal.loop-prefix-preserved
loop-prefix-preserved c =
    let i = c.loop-prefix.prefix-index in
    let test = starts_with nat_eq c.args.text.now in
    let turn = any_from test c.args.prefixes.now i (record { ref_ptr = (0, 0); now = [] }) c.loop-prefix-test.true in
    let here = starts_text c.starts_with.result
    (get_or c.args.prefixes.now i (record { ref_ptr = (0, 0); now = [] })).now c.args.text.now
    c.starts_with.ensures.cases in
    c.loop-prefix.invariant ∙ turn
    ∙ ap (λ b. b || list_any test (map (λ p. p.now) (drop (i + 1) c.args.prefixes.now)))
    (sym here ∙ c.if-starts_with.false)

use Rattle.std.proofs.Common.{◌-◌, length, ap, sym, ◌∙◌, [], Less, arith}
use Rattle.naga_keywords.specs.SortedWords.{comparison_key, word_cmp}
use Rattle.naga_keywords.proofs.Halving.{equal_at, keys_length, order_at, index_after}
use Rattle.naga_keywords.proofs.sorted.insertion_index.Goals as goal

pub returns-in-Less : goal.returns-in-Less
returns-in-Less c =
    let members = c.args.members.now in
    let last = c.in-Some.ensures.item.3 in
    let word = comparison_key c.new.result.case c.new.result.wanted.now in
    let told = c.in-Less.ensures.order
    ∙ ap (λ m. word_cmp (comparison_key c.new.result.case m.now) word)
    (last.1 (record { ref_ptr = (0, 0); now = [] })) in
    index_after _ _ c.requires.sorted (length members) (sym (keys_length c.args.case members)) last.0
    (order_at members (length members - 1) _ Less (omega (arith, last.0)) c.new.ensures.case c.new.ensures.wanted told)

pub returns-in-Equal : goal.returns-in-Equal
returns-in-Equal c =
    let members = c.args.members.now in
    let last = c.in-Some.ensures.item.3 in
    let word = comparison_key c.new.result.case c.new.result.wanted.now in
    let told = c.in-Equal.ensures.order
    ∙ ap (λ m. word_cmp (comparison_key c.new.result.case m.now) word)
    (last.1 (record { ref_ptr = (0, 0); now = [] })) in (
      length members - 1,
      equal_at members (length members - 1) _ (omega (arith, last.0)) c.new.ensures.case
          c.new.ensures.wanted told,
    )

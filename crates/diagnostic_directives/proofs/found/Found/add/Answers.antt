use Rattle.std.proofs.Common.{◌≡◌, ◌∙◌, ◌++◌, codes, cond, true, ap, sym, subst}
use Rattle.std.specs.Prelude.{false}
use Rattle.std.specs.BTreeSet.{contains_text}
use Rattle.std.specs.Str.{bytes_eq}
use Rattle.naga_words.specs.Diagnostics.{severity_word}
use Rattle.diagnostic_directives.specs.Names.{has_name}
use Rattle.diagnostic_directives.proofs.Keeping.{added}
use Rattle.diagnostic_directives.proofs.found.Found.add.Goals as goal

-- no filter of its rule was met, so its directive is kept
pub returns-clause-ok : goal.returns-clause-ok
returns-clause-ok c =
    let old = c.args.self.now in
    let f = c.args.filter.now in
    let named : has_name f.triggering_rule ≡ true = cc in
    λ met tells. added met old f tells c.keep.new.self c.in_ok-line.line
    (subst (λ n. contains_text old.rules n ≡ false) (c.as_str.ensures.value ∙ c.in_ok-name.ensures)
    (sym c.was_met.ensures ∙ c.if-was_met.false))
    named
    (c.in_ok-line.ensures
    ∙ ap (λ n. codes "diagnostic(" ++ (severity_word f.new_severity ++ (codes ", " ++ (n ++ codes ");\n"))))
    (c.as_str-2.ensures.value ∙ c.in_ok-name.ensures))
    c.in_ok-keep.ensures.lines
    (λ of. c.in_ok-keep.ensures.rules of
    ∙ ap (λ n. cond (bytes_eq n of) true (contains_text old.rules of)) c.in_ok-name.ensures)

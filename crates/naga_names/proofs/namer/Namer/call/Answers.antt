use Rattle.std.proofs.Common.{◌≡◌, IfOk, OnOk, map, string_bytes, ap, subst, ◌∙◌}
use Rattle.std.specs.Str.{chars}
use Rattle.naga_naming.specs.Label.{stem_of}
use Rattle.naga_naming.specs.Naming.{label_stem}
use Rattle.naga_naming.proofs.Label.{on_ok_both}
use Rattle.naga_naming.proofs.Naming.{name_of-after, name_of-by_stem, with_use-by_stem, push-by_stem}
use Rattle.naga_names.proofs.namer.Namer.call.Goals as goal

-- the stem that stands in the label
stem_in_label : (c : goal.After-name_of_stem)
    → c.in-Some.stem.now ≡ label_stem c.args.self.now c.args.label.now
stem_in_label c =
    c.in-Some.ensures
    ∙ ap (λ ps. stem_of (map (λ p. p.now) ps) (chars c.args.label.now)) c.deref.ensures.value
    ∙ ap (λ n. label_stem n c.args.label.now) c.self.view_is

pub returns-in-Some-clause-name : goal.returns-in-Some-clause-name
returns-in-Some-clause-name c =
    subst (λ n. IfOk c.name_of_stem.result (λ name. string_bytes name ≡ n))
    (name_of-by_stem _ _ _ (stem_in_label c)) c.name_of_stem.ensures.name

pub returns-in-Some-clause-used : goal.returns-in-Some-clause-used
returns-in-Some-clause-used c =
    subst (λ n. OnOk c.name_of_stem.result (c.name_of_stem.new.self ≡ n))
    (with_use-by_stem _ _ _ (stem_in_label c)) c.name_of_stem.ensures.used

pub returns-in-Some-clause-history : goal.returns-in-Some-clause-history
returns-in-Some-clause-history c = λ earlier has.
    subst (λ n. IfOk c.name_of_stem.result (λ name. string_bytes name ≡ n))
    (name_of-after c.args.self.now earlier c.args.label.now has) (returns-in-Some-clause-name c)

pub returns-in-Some-clause-more_history : goal.returns-in-Some-clause-more_history
returns-in-Some-clause-more_history c = λ earlier has.
    on_ok_both c.name_of_stem.result c.name_of_stem.ensures.used c.name_of_stem.ensures.room
    (push-by_stem c.args.self.now c.args.label.now _ (stem_in_label c) earlier
    c.name_of_stem.new.self has)

-- the stem that has a text of its own
stem_is : (c : goal.After-drop-stem)
    → c.as_str.result.now ≡ label_stem c.args.self.now c.args.label.now
stem_is c =
    c.as_str.ensures.value ∙ c.in_ok-stem.ensures
    ∙ ap (λ ps. stem_of (map (λ p. p.now) ps) (chars c.args.label.now)) c.deref-2.ensures.value
    ∙ ap (λ n. label_stem n c.args.label.now) c.self.view_is

pub returns-clause-name : goal.returns-clause-name
returns-clause-name c =
    subst (λ n. IfOk c.name_of_stem-2.result (λ name. string_bytes name ≡ n))
    (name_of-by_stem _ _ _ (stem_is c)) c.name_of_stem-2.ensures.name

pub returns-clause-used : goal.returns-clause-used
returns-clause-used c =
    subst (λ n. OnOk c.name_of_stem-2.result (c.name_of_stem-2.new.self ≡ n))
    (with_use-by_stem _ _ _ (stem_is c)) c.name_of_stem-2.ensures.used

pub returns-clause-history : goal.returns-clause-history
returns-clause-history c = λ earlier has.
    subst (λ n. IfOk c.name_of_stem-2.result (λ name. string_bytes name ≡ n))
    (name_of-after c.args.self.now earlier c.args.label.now has) (returns-clause-name c)

pub returns-clause-more_history : goal.returns-clause-more_history
returns-clause-more_history c = λ earlier has.
    on_ok_both c.name_of_stem-2.result c.name_of_stem-2.ensures.used c.name_of_stem-2.ensures.room
    (push-by_stem c.args.self.now c.args.label.now _ (stem_is c) earlier
    c.name_of_stem-2.new.self has)

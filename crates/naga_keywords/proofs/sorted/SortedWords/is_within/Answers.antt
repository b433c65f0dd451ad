use Rattle.std.proofs.Common.{rules, tests, ap, sym, ◌∙◌}
use Rattle.std.specs.Cow.{cow_slice_items}
use Rattle.std.specs.FinSet as set
use Rattle.std.specs.List.{list_all}
use Rattle.std.proofs.lemmas.Iterator.{YieldsList-from_slice}
use Rattle.std.proofs.lemmas.Iterator.Search.{all_from_yields_List}
use Rattle.naga_keywords.specs.SortedWords.{comparison_key}
use Rattle.naga_keywords.proofs.SortedSets.{is_subset_by_members}
use Rattle.naga_keywords.proofs.sorted.SortedWords.is_within.Goals as goal

pub returns : goal.returns
returns c =
    let members = cow_slice_items c.self.inside.members in
    let other = c.args.other.now in
    let case = sym c.requires ∙ sym (ap (λ s. s.case) c.self.view_is) in
    all_from_yields_List (λ m. set.contains other.words (comparison_key other.case m.now)) _ _ _ c.all.ensures.ran
    (YieldsList-from_slice members (c.iter.ensures.rest ∙ c.as_slice.ensures.value)) (λ x b q k. search (rules, tests))
    ∙ ap (λ k. list_all (λ m. set.contains other.words (comparison_key k m.now)) members) case
    ∙ is_subset_by_members c.self.inside.case other.words members
    ∙ ap (λ s. set.is_subset s.words other.words) c.self.view_is

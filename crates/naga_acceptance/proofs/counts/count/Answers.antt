use Rattle.std.proofs.Common.{length, refl, sym, ap, ◌∙◌}
use Rattle.std.specs.Vec.{with_items}
use Rattle.std.proofs.lemmas.List.{with_items_is}
use Rattle.naga_acceptance.specs.Counts.{all_with_counts, functions_of}
use Rattle.naga_acceptance.proofs.Counting.{length-all_with_counts}
use Rattle.naga_acceptance.proofs.Recounted.{same_acceptance}
use Rattle.naga_acceptance.proofs.counts.count.Goals as goal

pub returns-clause-accepted : goal.returns-clause-accepted
returns-clause-accepted c =
    let old = c.args.info.now in
    let functions = c.count_functions.ensures
    ∙ ap (all_with_counts c.args.«module».now.functions) c.as_mut_slice.ensures.value in
    let function_count = ap length functions
    ∙ length-all_with_counts c.args.«module».now.functions old.functions.items in
    let points = functions_of c.args.«module».now.entry_points.items in
    let entries = c.count_entry_points.ensures
    ∙ (λ i. all_with_counts (functions_of (c.deref.ensures.value i)) (c.as_mut_slice-2.ensures.value i)) in
    let entry_count = ap length entries ∙ length-all_with_counts points old.entry_points.items in
    same_acceptance c.args.«module».now old
    (record {
      functions = with_items old.functions c.count_functions.new.infos;
      entry_points =
          with_items old.entry_points c.count_entry_points.new.infos;
      const_expression_types =
          old.const_expression_types;
    })
    (with_items_is old.functions c.count_functions.new.infos (function_count ∙ sym old.functions.ok.0) ∙ functions)
    (with_items_is old.entry_points c.count_entry_points.new.infos (entry_count ∙ sym old.entry_points.ok.0) ∙ entries)
    refl

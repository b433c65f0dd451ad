use Rattle.std.proofs.Common.{◌∙◌, ap, sym}
use Rattle.std.specs.Option.{option_map}
use Rattle.naga_naming.specs.Keys.{names_in}
use Rattle.serde_json.specs.View.{view}
use Rattle.name_maps.proofs.FewMembers.{all_have_few, few_as, few_here, few_left}
use Rattle.name_maps.proofs.MadeRows.{no_row, picked_after, picks, skips}
use Rattle.name_maps.specs.NameMaps.{declared_struct}
use Rattle.name_maps.proofs.items.struct_rows.Goals as goal

pub loop-handle-init : goal.loop-handle-init
loop-handle-init c =
    let m = c.args.«module».now in
    let one = declared_struct (names_in c.args.names.now) m.special_types in
    let all = c.into_iter-handle-iterator.ensures.into_iter_gives ∙ c.iter-handle-items.ensures in (
      λ i. picked_after one (c.new-rows.ensures.items i) (all i),
      few_as _ _ all (all_have_few m c.requires.counted),
    )

pub declared_struct-requires : goal.declared_struct-requires
declared_struct-requires c =
    record {
      counted = few_here _ _ _ c.in-Some.ensures.steps c.loop-handle.invariant.1;
    }

pub loop-handle-preserved-in-Continue-branch-3 : goal.loop-handle-preserved-in-Continue-branch-3
loop-handle-preserved-in-Continue-branch-3 c =
    let one = declared_struct (names_in c.args.names.now) c.args.«module».now.special_types in (
      picks one _ _ c.in-Some-2.row _ _ _ _ c.in_ok-push.ensures.items
          (sym c.in_ok-row.ensures ∙ ap (option_map view) c.in-Some-2.is)
          c.in-Some.ensures.steps c.loop-handle.invariant.0,
      few_left _ _ _ c.in-Some.ensures.steps c.loop-handle.invariant.1,
    )

pub loop-handle-preserved : goal.loop-handle-preserved
loop-handle-preserved c =
    let one = declared_struct (names_in c.args.names.now) c.args.«module».now.special_types in (
      skips one _ _ _ _ _ (sym c.in_ok-row.ensures ∙ no_row view _ c.in_default.not-Some)
          c.in-Some.ensures.steps c.loop-handle.invariant.0,
      few_left _ _ _ c.in-Some.ensures.steps c.loop-handle.invariant.1,
    )

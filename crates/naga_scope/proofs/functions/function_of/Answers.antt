use Rattle.std.proofs.Common.{◌≡◌, ◌<◌, ap, arith, length, slice_get, subst, sym, ◌+◌, ◌∙◌}
use Rattle.std.proofs.lemmas.Option.{slice_get_read}
use Rattle.naga_form.proofs.statements.AcceptedFunctions.{entry_points_counted, functions_counted}
use Rattle.module_semantics.proofs.FunctionNumbers.{after_left, entry_point_among, function_among}
use Rattle.module_semantics.proofs.FunctionNumbers.{info_among}
use Rattle.module_semantics.specs.FunctionNumbers.{IsFunctionOf, all_functions, all_infos}
use Rattle.module_semantics.specs.FunctionNumbers.{function_number}
use Rattle.naga_scope.proofs.functions.function_of.Goals as goal

pub index-requires-in-Function : goal.index-requires-in-Function
index-requires-in-Function c =
    let m = c.args.module.now in
    let info = c.args.info.now in
    let lt = subst (λ ty. IsFunctionOf ty m) c.in-Function.is c.requires.there in
    let same = functions_counted m info c.requires.accepted in
    let counted : length info.functions.items ≡ info.functions.len = sym info.functions.ok.0 in
    subst (λ n. c.in-Function.handle < n) (same ∙ counted) lt

pub get_entry_point-requires : goal.get_entry_point-requires
get_entry_point-requires c =
    let m = c.args.module.now in
    let info = c.args.info.now in
    let lt = subst (λ ty. IsFunctionOf ty m) c.in-EntryPoint.is c.requires.there in
    let same = entry_points_counted m info c.requires.accepted in
    let one : m.entry_points.len ≡ length m.entry_points.items = m.entry_points.ok.0 in
    let other : info.entry_points.len ≡ length info.entry_points.items = info.entry_points.ok.0 in
    omega (arith, lt, same, one, other)

pub returns-in-Function : goal.returns-in-Function
returns-in-Function c =
    let m = c.args.module.now in
    let info = c.args.info.now in
    let handle = c.in-Function.handle in
    record {
      function = ap (λ ty. slice_get (all_functions m) (function_number m ty)) c.in-Function.is
          ∙ function_among m handle c.index.result.now c.index.ensures;
      known = ap (λ ty. slice_get (all_infos info) (function_number m ty)) c.in-Function.is
          ∙ info_among info handle c.index-in-Function.result.now c.index-in-Function.ensures;
    }

pub returns-in-EntryPoint : goal.returns-in-EntryPoint
returns-in-EntryPoint c =
    let m = c.args.module.now in
    let info = c.args.info.now in
    let index = c.in-EntryPoint.index in
    let entry_point = c.index-in-EntryPoint.result.now in
    let es = c.get_entry_point.result.now in
    let lt = subst (λ ty. IsFunctionOf ty m) c.in-EntryPoint.is c.requires.there in
    record {
      function = ap (λ ty. slice_get (all_functions m) (function_number m ty)) c.in-EntryPoint.is
          ∙ entry_point_among m index entry_point
          (slice_get_read m.entry_points.items m.entry_points.len index entry_point
          m.entry_points.ok.0 lt c.index-in-EntryPoint.ensures);
      known = ap (λ ty. slice_get (all_infos info) (function_number m ty)) c.in-EntryPoint.is
          ∙ (ap (λ n. slice_get (all_infos info) (n + index))
          (functions_counted m info c.requires.accepted)
          ∙ after_left info.functions.items info.entry_points.items index es
          c.get_entry_point.ensures);
    }

use Rattle.std.proofs.Common.{◌≡◌, ◌<◌, ◌==◌, false, true, length, ap, sym, ◌∙◌, arith, slice_get}
use Rattle.std.proofs.Common.{slice_index_or, Some, eq-eqb}
use Rattle.std.specs.List.{enumerate_from, zip}
use Rattle.std.specs.Option.{option_map}
use Rattle.naga_acceptance.specs.FirstFaults.{at}
use Rattle.naga_acceptance.specs.Searching.{first_unfit, unless}
use Rattle.naga_acceptance.specs.declared.faults.Fault.TheVariants as fault
use Rattle.naga_acceptance.specs.declared.faults.FaultPosition.TheVariants as item
use Rattle.naga_acceptance.specs.declared.faults.FunctionPosition.TheVariants as part
use Rattle.module_semantics.specs.acceptance.InfoSizes.{function_size_fits}
use Rattle.naga_acceptance.proofs.Pairing.{unfit_here, unfit_next}
use Rattle.naga_acceptance.proofs.ranges.sizes.function_sizes_fault.Goals as goal

pub returns-then-not-function_size_fits : goal.returns-then-not-function_size_fits
returns-then-not-function_size_fits c =
    let in_fs : c.loop-index.index < length c.args.functions.now = omega (arith, c.len.ensures)
    in let lens : (length c.args.functions.now == length c.args.infos.now) ≡ true =
    eq-eqb (length c.args.functions.now) (length c.args.infos.now) (omega (arith, c.len.ensures))
    in let here : slice_get c.args.functions.now c.loop-index.index ≡ Some c.index.result.now =
    rw (← c.from_index-handle.ensures) c.index.ensures
    in let fits : function_size_fits c.index.result.now
    (slice_index_or c.args.infos.now c.loop-index.index c.index-infos-index.result) ≡ false =
    ap (function_size_fits c.index.result.now) (sym c.index-infos-index.is) ∙ sym c.function_size_fits.ensures
    ∙ c.if-not-function_size_fits.true
    in ap Some c.at-then-not-function_size_fits.ensures
    ∙ ap (λ h. Some (at (item.Function h part.Whole) fault.InfoSize)) c.from_index-handle.ensures
    ∙ ap (option_map (λ h. at (item.Function h part.Whole) fault.InfoSize))
    (sym (unfit_here c.args.functions.now c.args.infos.now function_size_fits c.loop-index.index
    c.index.result.now c.index-infos-index.result in_fs c.loop-index-test.true here fits)
    ∙ c.loop-index.invariant)
    ∙ ap (λ b. unless b (at item.Module fault.InfoSize)
    (option_map (λ h. at (item.Function h part.Whole) fault.InfoSize)
    (first_unfit (λ _ p. function_size_fits p.0 p.1)
    (enumerate_from 0 (zip c.args.functions.now c.args.infos.now))))) (sym lens)

pub loop-index-preserved : goal.loop-index-preserved
loop-index-preserved c =
    let in_fs : c.loop-index.index < length c.args.functions.now = omega (arith, c.len.ensures)
    in let here : slice_get c.args.functions.now c.loop-index.index ≡ Some c.index.result.now =
    rw (← c.from_index-handle.ensures) c.index.ensures
    in let fits : function_size_fits c.index.result.now
    (slice_index_or c.args.infos.now c.loop-index.index c.index-infos-index.result) ≡ true =
    ap (function_size_fits c.index.result.now) (sym c.index-infos-index.is) ∙ sym c.function_size_fits.ensures
    ∙ c.if-not-function_size_fits.false
    in sym (unfit_next c.args.functions.now c.args.infos.now function_size_fits c.loop-index.index
    c.index.result.now c.index-infos-index.result in_fs c.loop-index-test.true here fits)
    ∙ c.loop-index.invariant

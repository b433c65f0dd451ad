use Rattle.std.proofs.Common.{◌≡◌, ◌<◌, ◌==◌, true, length, ap, sym, ◌∙◌, arith, slice_get, map}
use Rattle.std.proofs.Common.{slice_index_or, Some, None, eq-eqb}
use Rattle.std.specs.List.{enumerate_from, zip}
use Rattle.std.specs.Option.{option_map}
use Rattle.naga_acceptance.specs.FirstFaults.{at, at_function, function_sound_fault}
use Rattle.naga_acceptance.specs.Searching.{first_faulty, unless}
use Rattle.naga_acceptance.specs.declared.faults.Fault.TheVariants as fault
use Rattle.naga_acceptance.specs.declared.faults.FaultPosition.TheVariants as item
use Rattle.naga_acceptance.proofs.Pairing.{faulty_here, faulty_next}
use Rattle.naga_acceptance.proofs.soundness.functions_sound_fault.Goals as goal

pub returns-in-Some : goal.returns-in-Some
returns-in-Some c =
    let in_fs : c.loop-index.index < length c.args.functions.now = omega (arith, c.len.ensures)
    in let lens : (length c.args.functions.now == length c.args.infos.now) ≡ true =
    eq-eqb (length c.args.functions.now) (length c.args.infos.now) (omega (arith, c.len.ensures))
    in let here : slice_get c.args.functions.now c.loop-index.index ≡ Some c.index.result.now =
    rw (← c.from_index-handle.ensures) c.index.ensures
    in let fits : function_sound_fault c.args.module.now c.index.result.now
    (map (λ k. k.ty) (slice_index_or c.args.infos.now c.loop-index.index c.index-infos-index.result))
    ≡ Some c.in-Some.found =
    ap (λ ks. function_sound_fault c.args.module.now c.index.result.now (map (λ k. k.ty) ks))
    (sym c.index-infos-index.is) ∙ sym c.in-Some.ensures
    in ap Some c.at_function.ensures
    ∙ ap (λ h. Some (at_function h c.in-Some.found)) c.from_index-handle.ensures
    ∙ ap (option_map (λ found. at_function found.0 found.1))
    (sym (faulty_here c.args.functions.now c.args.infos.now
    (λ f ks. function_sound_fault c.args.module.now f (map (λ k. k.ty) ks)) c.loop-index.index
    c.index.result.now c.index-infos-index.result c.in-Some.found in_fs c.loop-index-test.true
    here fits)
    ∙ c.loop-index.invariant)
    ∙ ap (λ b. unless b (at item.Module fault.InfoSize) (option_map (λ found. at_function found.0 found.1)
    (first_faulty (λ _ p. function_sound_fault c.args.module.now p.0 (map (λ k. k.ty) p.1))
    (enumerate_from 0 (zip c.args.functions.now c.args.infos.now))))) (sym lens)

pub loop-index-preserved : goal.loop-index-preserved
loop-index-preserved c =
    let in_fs : c.loop-index.index < length c.args.functions.now = omega (arith, c.len.ensures)
    in let here : slice_get c.args.functions.now c.loop-index.index ≡ Some c.index.result.now =
    rw (← c.from_index-handle.ensures) c.index.ensures
    in let fits : function_sound_fault c.args.module.now c.index.result.now
    (map (λ k. k.ty) (slice_index_or c.args.infos.now c.loop-index.index c.index-infos-index.result)) ≡ None =
    ap (λ ks. function_sound_fault c.args.module.now c.index.result.now (map (λ k. k.ty) ks))
    (sym c.index-infos-index.is) ∙ sym c.in_default.ensures
    in sym (faulty_next c.args.functions.now c.args.infos.now
    (λ f ks. function_sound_fault c.args.module.now f (map (λ k. k.ty) ks)) c.loop-index.index
    c.index.result.now c.index-infos-index.result in_fs c.loop-index-test.true here fits)
    ∙ c.loop-index.invariant

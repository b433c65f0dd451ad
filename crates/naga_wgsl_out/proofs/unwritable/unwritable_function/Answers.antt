use Rattle.std.proofs.Common.{◌≡◌, ◌+◌, arith, length, refl, subst, sym}
use Rattle.naga_scope.specs.KnownModules.{explicit_in}
use Rattle.naga_back.specs.declared.context.FunctionType.TheVariants as item
use Rattle.naga_wgsl_out.proofs.Functions.{last_entry_point, entry_points_have_keys}
use Rattle.naga_wgsl_out.proofs.Positions.{AreWritable, all_writable, before_writable, found_none}
use Rattle.naga_wgsl_out.proofs.Positions.{found_some, none_writable, one_writable}
use Rattle.naga_wgsl_out.proofs.Positions.{refusal_first, refusal_stands}
use Rattle.naga_wgsl_out.specs.Unwritable.{AreWritableBefore}
use Rattle.naga_wgsl_out.proofs.unwritable.unwritable_function.Goals as goal

pub loop-index-init : goal.loop-index-init
loop-index-init c =
    let k = c.args.known.now in
    none_writable (explicit_in k) k.shader.now k.info.now c.args.namer.now
    c.requires.namer

pub loop-index-preserved : goal.loop-index-preserved
loop-index-preserved c =
    let k = c.args.known.now in
    let e = explicit_in k in
    let m = k.shader.now in
    let info = k.info.now in
    let here = found_none e m info (item.Function c.from_index.result) _ _ c.in_default.is c.in_ok-found.ensures in
    one_writable e m info c.loop-index.index _ _ _ _ c.from_index.ensures refl c.loop-index.invariant here

pub returns-in-Some-clause-stands : goal.returns-in-Some-clause-stands
returns-in-Some-clause-stands c =
    let k = c.args.known.now in
    let e = explicit_in k in
    let m = k.shader.now in
    let info = k.info.now in
    let ty = item.Function c.from_index.result in
    refusal_stands e m info ty c.in-Some.refusal
    (omega (arith, c.loop-index-test.true, c.len-index-end.ensures, c.from_index.ensures))
    (found_some e m info ty _ _ c.in-Some.refusal c.in-Some.is c.in_ok-found.ensures)

pub returns-in-Some-clause-first : goal.returns-in-Some-clause-first
returns-in-Some-clause-first c =
    let k = c.args.known.now in
    let e = explicit_in k in
    let m = k.shader.now in
    let info = k.info.now in
    let ty = item.Function c.from_index.result in
    refusal_first e m info ty c.in-Some.refusal
    (found_some e m info ty _ _ c.in-Some.refusal c.in-Some.is c.in_ok-found.ensures)
    (subst (AreWritableBefore e m info) (sym c.from_index.ensures)
    (before_writable e m info _ _ c.loop-index.namer c.requires.can.declared c.requires.can.names c.loop-index.invariant))

pub loop-index-2-init : goal.loop-index-2-init
loop-index-2-init c =
    let k = c.args.known.now in
    let m = k.shader.now in
    let all : c.loop-index.index ≡ length m.functions + 0 =
    omega (arith, c.loop-index-test.false, c.len-index-end.ensures) in
    subst (λ n. AreWritable (explicit_in k) m k.info.now n c.loop-index.namer) all
    c.loop-index.invariant

pub overflow_cast-ty : goal.overflow_cast-ty
overflow_cast-ty c =
    let m = c.args.known.now.shader.now in
    let counted = entry_points_have_keys m c.requires.can.names.keys in
    let long : m.entry_points.len ≡ length m.entry_points.items = m.entry_points.ok.0 in
    omega (arith, c.loop-index-2-test.true, c.len-index-end-2.ensures, counted, long)

pub loop-index-2-preserved : goal.loop-index-2-preserved
loop-index-2-preserved c =
    let k = c.args.known.now in
    let e = explicit_in k in
    let m = k.shader.now in
    let info = k.info.now in
    let here = found_none e m info (item.EntryPoint c.loop-index-2.index) _ _ c.in_default-found.is
    c.in_ok-found-2.ensures in
    let next : (length m.functions + c.loop-index-2.index) + 1 ≡ length m.functions + (c.loop-index-2.index + 1) =
    omega arith in
    one_writable e m info (length m.functions + c.loop-index-2.index) _ _ _ _ refl next c.loop-index-2.invariant here

pub returns-in-Some-found-clause-stands : goal.returns-in-Some-found-clause-stands
returns-in-Some-found-clause-stands c =
    let k = c.args.known.now in
    let e = explicit_in k in
    let m = k.shader.now in
    let info = k.info.now in
    let ty = item.EntryPoint c.loop-index-2.index in
    refusal_stands e m info ty c.in-Some-found.refusal tt
    (found_some e m info ty _ _ c.in-Some-found.refusal c.in-Some-found.is c.in_ok-found-2.ensures)

pub returns-in-Some-found-clause-first : goal.returns-in-Some-found-clause-first
returns-in-Some-found-clause-first c =
    let k = c.args.known.now in
    let e = explicit_in k in
    let m = k.shader.now in
    let info = k.info.now in
    let ty = item.EntryPoint c.loop-index-2.index in
    refusal_first e m info ty c.in-Some-found.refusal
    (found_some e m info ty _ _ c.in-Some-found.refusal c.in-Some-found.is c.in_ok-found-2.ensures)
    (before_writable e m info _ _ c.loop-index-2.namer c.requires.can.declared c.requires.can.names c.loop-index-2.invariant)

pub returns-clause-stands : goal.returns-clause-stands
returns-clause-stands c =
    let k = c.args.known.now in
    let m = k.shader.now in
    let points : c.loop-index-2.index ≡ m.entry_points.len =
    omega (arith, c.loop-index-2-test.false, c.len-index-end-2.ensures) in
    all_writable (explicit_in k) m k.info.now _ _ c.loop-index-2.namer
    c.requires.can.declared c.requires.can.names (last_entry_point m c.loop-index-2.index points)
    c.loop-index-2.invariant

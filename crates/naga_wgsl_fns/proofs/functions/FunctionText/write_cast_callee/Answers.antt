use Rattle.std.proofs.Common.{◌≡◌, true, sym, subst, ◌∙◌, length}
use Rattle.std.proofs.lemmas.Option.{same_Some}
use Rattle.module_semantics.specs.AlikeTypes.{has_type_form}
use Rattle.naga_info.specs.declared.info.TypeResolution.TheVariants.{Value}
use Rattle.naga_words.proofs.Writing.{writes_as}
use Rattle.naga_wgsl_fns.proofs.ConversionRows.{callee_row, target_fits}
use Rattle.naga_wgsl_fns.proofs.Preconditions.{converted_is}
use Rattle.naga_wgsl_fns.proofs.functions.FunctionText.write_cast_callee.Goals as goal

pub write_cast-requires-clause-formed : goal.write_cast-requires-clause-formed
write_cast-requires-clause-formed g c =
    let self = c.args.self.now in
    let to =
    converted_is self c.requires.can c.args.operand c.args.kind c.args.convert c.requires.formed
    c.type_of-inner.result.now c.type_of-inner.ensures in
    subst (λ it. has_type_form self.known.shader.now.types (Value it) ≡ true)
    (same_Some to.0 _ (sym to.1.0 ∙ c.conversion_target.ensures)) to.1.1

pub write_cast-requires-clause-fits : goal.write_cast-requires-clause-fits
write_cast-requires-clause-fits g c =
    let m = c.args.self.now.known.shader.now in
    target_fits (length m.overrides) (length m.types) c.type_of-inner.result.now _ c.args.kind
    c.args.convert c.conversion_target.ensures

pub returns : goal.returns
returns g c =
    let self = c.args.self.now in
    let from = c.type_of-inner.result.now in
    let known = c.type_of-inner.ensures in
    let target = c.conversion_target.ensures in
    let to =
    converted_is self c.requires.can c.args.operand c.args.kind c.args.convert c.requires.formed
    from known in
    let formed =
    subst (λ it. has_type_form self.known.shader.now.types (Value it) ≡ true)
    (same_Some to.0 _ (sym to.1.0 ∙ target)) to.1.1 in
    writes_as
    (callee_row self c.args.operand c.args.kind c.args.convert from c.conversion_target.result known
    target formed c.keeps_bits.result c.keeps_bits.ensures)
    c.write_cast.ensures

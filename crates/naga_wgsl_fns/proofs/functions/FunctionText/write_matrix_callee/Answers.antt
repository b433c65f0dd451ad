use Rattle.std.proofs.Common.{◌≡◌, ◌∙◌, refl, subst, sym, true}
use Rattle.std.proofs.lemmas.Option.{same_Some}
use Rattle.module_semantics.specs.AlikeTypes.{has_type_form}
use Rattle.naga_info.specs.declared.info.TypeResolution.TheVariants.{Value}
use Rattle.naga_ir.specs.declared.types.TypeInner.TheVariants.{CooperativeMatrix}
use Rattle.naga_words.proofs.Writing.{writes_as}
use Rattle.naga_wgsl_fns.proofs.LoadRows.{matrix_callee_row}
use Rattle.naga_wgsl_fns.proofs.Preconditions.{matrix_loaded}
use Rattle.naga_wgsl_fns.proofs.functions.FunctionText.write_matrix_callee.Goals as goal

pub write_taking-requires-clause-formed : goal.write_taking-requires-clause-formed
write_taking-requires-clause-formed g c =
    let self = c.args.self.now in
    let loaded =
    matrix_loaded self c.requires.can c.args.columns c.args.rows c.args.role c.args.memory
    c.requires.formed in
    subst
    (λ s. has_type_form self.known.shader.now.types
    (Value (CooperativeMatrix c.args.columns c.args.rows s c.args.role)) ≡
    true)
    (same_Some loaded.scalar _ (sym loaded.known ∙ c.pointed_scalar-scalar.ensures)) loaded.formed

pub write_taking-requires-clause-fits : goal.write_taking-requires-clause-fits
write_taking-requires-clause-fits g c = refl

pub returns : goal.returns
returns g c =
    let self = c.args.self.now in
    let loaded =
    matrix_loaded self c.requires.can c.args.columns c.args.rows c.args.role c.args.memory
    c.requires.formed in
    let formed =
    subst
    (λ s. has_type_form self.known.shader.now.types
    (Value (CooperativeMatrix c.args.columns c.args.rows s c.args.role)) ≡
    true)
    (same_Some loaded.scalar _ (sym loaded.known ∙ c.pointed_scalar-scalar.ensures)) loaded.formed in
    writes_as
    (matrix_callee_row self c.args.columns c.args.rows c.args.role c.args.memory
    c.pointed_scalar-scalar.result c.pointed_scalar-scalar.ensures formed c.load_str.result.now
    c.load_str.ensures)
    c.write_taking.ensures
